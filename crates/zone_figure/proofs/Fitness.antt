-- Every node of a zone chart's tree is known, of its shape, and fit.
-- Assumes nothing.
use Rattle.std.proofs.Common.{◌≡◌, true, List, [], ◌∷◌, ◌++◌, ℤ, Some, Option, refl}
use lib.Signed.{lt_z}
use Rattle.std.specs.List.{AllByRecursion}
use Rattle.std.proofs.lemmas.Bool.{and_parts, and_from}
use Rattle.records.specs.declared.raw.EdgeRecord.{EdgeRecord}
use Rattle.records.specs.Range.{is_coordinate, is_zone}
use Rattle.geometry.specs.Edge.{is_edge}
use Rattle.node.specs.declared.kind.Kind.TheVariants.{Split, Edge, Zone}
use Rattle.node.specs.Kinds.{shape_of}
use Rattle.search.specs.Visit.{FitsWhole}
use Rattle.zone_figure.specs.Judge.{zone_judging}
use Rattle.zone_figure.specs.Halving.{Bush, bare, fork}
use Rattle.zone_figure.specs.Slab.{edge_tree, slab_tree}
use Rattle.zone_figure.specs.Figure.{run_tree}
use Rattle.zone_figure.proofs.Halving.{elements}

-- the parts of an edge that a figure shows
pub record Parts (e : EdgeRecord) : Type 0 where
  pub x1 : is_coordinate e.x1 ≡ true
  pub y1 : is_coordinate e.y1 ≡ true
  pub x2 : is_coordinate e.x2 ≡ true
  pub y2 : is_coordinate e.y2 ≡ true
  pub zone : is_zone e.zone ≡ true
  pub wide : lt_z e.x1 e.x2 ≡ true

pub parts_of : (e : EdgeRecord) → is_edge e ≡ true → Parts e
parts_of e h =
    let wide = and_parts _ (lt_z e.x1 e.x2) h in
    let zone = and_parts _ (is_zone e.zone) wide.0 in
    let y2 = and_parts _ (is_coordinate e.y2) zone.0 in
    let x2 = and_parts _ (is_coordinate e.x2) y2.0 in
    let y1 = and_parts _ (is_coordinate e.y1) x2.0 in
    let x1 = and_parts _ (is_coordinate e.x1) y1.0 in
    record { x1 = x1.1; y1 = y1.1; x2 = x2.1; y2 = y2.1; zone = zone.1; wide = wide.1 }

pub all_front : {X : Type 0} (P : X → Type 0) (xs ys : List X) → AllByRecursion P (xs ++ ys) → AllByRecursion P xs
all_front P [] ys h = tt
all_front P (x ∷ xs) ys h = (h.0, all_front P xs ys h.1)

pub all_back : {X : Type 0} (P : X → Type 0) (xs ys : List X) → AllByRecursion P (xs ++ ys) → AllByRecursion P ys
all_back P [] ys h = h
all_back P (x ∷ xs) ys h = all_back P xs ys h.1

edge_fits : (e : EdgeRecord) → Parts e → zone_judging.is_fit 2 (e.x1 ∷ e.y1 ∷ e.x2 ∷ e.y2 ∷ []) ≡ true
edge_fits e parts =
    and_from _ (lt_z e.x1 e.x2) (and_from _ (is_coordinate e.y2) (and_from _ (is_coordinate e.x2) (and_from (is_coordinate e.x1) (is_coordinate e.y1) parts.x1 parts.y1) parts.x2) parts.y2) parts.wide

pub edge_tree_fits : (bush : Bush EdgeRecord) (ground : ℤ) → is_zone ground ≡ true → AllByRecursion Parts (elements bush) → FitsWhole zone_judging (edge_tree ground bush)
edge_tree_fits bare ground z h =
    (record { shape = shape_of Zone; judgeable = record { known = refl; counted = refl; fit = z }; joined = refl }, tt)
edge_tree_fits (fork low e high) ground z h =
    let back = all_back Parts (elements low) (e ∷ elements high) h in
    let below = edge_tree_fits low ground z (all_front Parts (elements low) (e ∷ elements high) h) in
    let above = edge_tree_fits high e.zone back.0.zone back.1 in (
      record { shape = shape_of Edge; judgeable = record { known = refl; counted = refl; fit = edge_fits e back.0 }; joined = refl },
      (below, (above, tt)),
    )

pub run_tree_fits : (held : List EdgeRecord) → ((west : Option ℤ) → FitsWhole zone_judging (slab_tree held west))
    → (bush : Bush ℤ) (west : Option ℤ) → AllByRecursion (λ x. is_coordinate x ≡ true) (elements bush) → FitsWhole zone_judging (run_tree held west bush)
run_tree_fits held slabs bare west h = slabs west
run_tree_fits held slabs (fork low x high) west h =
    let back = all_back (λ z. is_coordinate z ≡ true) (elements low) (x ∷ elements high) h in
    let below = run_tree_fits held slabs low west (all_front (λ z. is_coordinate z ≡ true) (elements low) (x ∷ elements high) h) in
    let above = run_tree_fits held slabs high (Some x) back.1 in (
      record { shape = shape_of Split; judgeable = record { known = refl; counted = refl; fit = back.0 }; joined = refl },
      (below, (above, tt)),
    )
