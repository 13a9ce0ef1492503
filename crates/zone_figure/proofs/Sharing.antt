-- How many nodes a zone chart's figure has: no more than its trees have forks and its leaves have zones, as a zone node is made once.
-- Assumes nothing.
use Rattle.std.proofs.Common.{◌≡◌, ℕ, suc, ◌+◌, ◌≤◌, Bool, true, false, cond, List, [], ◌∷◌, ◌++◌, length, ℤ, pos, Some, None, Option, sym, refl, ap, subst, ⊎_elim, arith}
use lib.Signed.{le_z}
use Rattle.std.specs.List.{ContainsAt, AllByRecursion}
use Rattle.std.proofs.lemmas.List.{length-append}
use Rattle.std.proofs.lemmas.Bool.{and_from, cond-true}
use Rattle.algebra.proofs.Order.{≤ℤ→int_le, ≡→≤ℤ}
use Rattle.records.specs.declared.raw.EdgeRecord.{EdgeRecord}
use Rattle.records.specs.Held.{same_number}
use Rattle.slabs.proofs.Elements.{has_cases, has_none}
use Rattle.search.specs.Node.{Node}
use Rattle.search.specs.Rose.{Rose, two}
use Rattle.search.specs.Making.{alike, alike_from, place_of_alike, found_or_next, made_node, made}
use Rattle.zone_figure.specs.Halving.{Bush, bare, fork, bush_of}
use Rattle.zone_figure.specs.Slab.{edges_before, edge_tree, slab_edges, slab_tree}
use Rattle.zone_figure.specs.Figure.{run_tree}
use Rattle.zone_figure.proofs.Halving.{elements, edges_halve, elements_of}
use Rattle.zone_figure.proofs.Fitness.{all_front, all_back}
use Rattle.zone_figure.proofs.Crowding.{sum_of}

abbrev zone_node : ℤ → Node
zone_node zone = record { kind = 3; numbers = zone ∷ []; successors = [] }

-- 1 if nothing is found
abbrev absent : Option ℕ → ℕ
absent None = 1
absent (Some place) = 0

absent_at_most : (o : Option ℕ) → absent o ≤ 1
absent_at_most None = omega arith
absent_at_most (Some place) = omega arith

absent_more : (place : ℕ) (node last : Node) (nodes : List Node) → absent (alike_from place node (nodes ++ last ∷ [])) ≤ absent (alike_from place node nodes)
absent_more place node last [] = absent_at_most (alike_from place node (last ∷ []))
absent_more place node last (other ∷ nodes) = by (alike node other) (absent_more (suc place) node last nodes)
  where
    by : (t : Bool) → absent (alike_from (suc place) node (nodes ++ last ∷ [])) ≤ absent (alike_from (suc place) node nodes)
        → absent (cond t (Some place) (alike_from (suc place) node (nodes ++ last ∷ []))) ≤ absent (cond t (Some place) (alike_from (suc place) node nodes))
    by true k = omega arith
    by false k = k

present_last : (place : ℕ) (node : Node) (nodes : List Node) → alike node node ≡ true → absent (alike_from place node (nodes ++ node ∷ [])) ≡ 0
present_last place node [] h = ap absent (cond-true (alike node node) (Some place) None h)
present_last place node (other ∷ nodes) h = by (alike node other) (present_last (suc place) node nodes h)
  where
    by : (t : Bool) → absent (alike_from (suc place) node (nodes ++ node ∷ [])) ≡ 0 → absent (cond t (Some place) (alike_from (suc place) node (nodes ++ node ∷ []))) ≡ 0
    by true k = refl
    by false k = k

zone_alike : (zone : ℤ) → alike (zone_node zone) (zone_node zone) ≡ true
zone_alike zone =
    let least = ≤ℤ→int_le {a = zone} {b = zone} (≡→≤ℤ refl) in
    and_from _ true (and_from (same_number zone zone) true (and_from (le_z zone zone) (le_z zone zone) least least) refl) refl

-- ---- what is made so far, and the zones without a node
abbrev missing : List Node → ℤ → ℕ
missing nodes zone = absent (place_of_alike (zone_node zone) nodes)

missing_more : (last : Node) (nodes : List Node) (zones : List ℤ) → sum_of (missing (nodes ++ last ∷ [])) zones ≤ sum_of (missing nodes) zones
missing_more last nodes [] = omega arith
missing_more last nodes (zone ∷ zones) = omega (arith, absent_more 0 (zone_node zone) last nodes, missing_more last nodes zones)

one_fewer : (zone : ℤ) (nodes : List Node) (zones : List ℤ) → ContainsAt zones zone → missing nodes zone ≡ 1 → suc (sum_of (missing (nodes ++ zone_node zone ∷ [])) zones) ≤ sum_of (missing nodes) zones
one_fewer zone nodes [] h k = absurd (has_none zone h)
one_fewer zone nodes (z ∷ zones) h k =
    ⊎_elim
    (λ e. omega (arith, missing_more (zone_node zone) nodes zones, ap (missing (nodes ++ zone_node zone ∷ [])) e, ap (missing nodes) e, k, present_last 0 (zone_node zone) nodes (zone_alike zone)))
    (λ later. omega (arith, absent_more 0 (zone_node z) (zone_node zone) nodes, one_fewer zone nodes zones later k))
    (has_cases z zones zone h)

missing_at_most : (nodes : List Node) (zones : List ℤ) → sum_of (missing nodes) zones ≤ length zones
missing_at_most nodes [] = omega arith
missing_at_most nodes (zone ∷ zones) = omega (arith, absent_at_most (place_of_alike (zone_node zone) nodes), missing_at_most nodes zones)

module _ (zones : List ℤ) where
  abbrev pub weight : List Node → ℕ
  weight nodes = length nodes + sum_of (missing nodes) zones

  weight_next : (nodes : List Node) (node : Node) → weight (nodes ++ node ∷ []) ≤ suc (weight nodes)
  weight_next nodes node = omega (arith, length-append nodes (node ∷ []), missing_more node nodes zones)

  -- a node more
  weight_node : (nodes : List Node) (node : Node) → weight (made_node nodes node).nodes ≤ suc (weight nodes)
  weight_node nodes node = by (place_of_alike node nodes)
    where
      by : (o : Option ℕ) → weight (found_or_next nodes node o).nodes ≤ suc (weight nodes)
      by None = weight_next nodes node
      by (Some place) = omega arith

  -- a zone's node weighs nothing
  weight_zone : (nodes : List Node) (zone : ℤ) → ContainsAt zones zone → weight (made_node nodes (zone_node zone)).nodes ≤ weight nodes
  weight_zone nodes zone h = by (place_of_alike (zone_node zone) nodes) refl
    where
      by : (o : Option ℕ) → place_of_alike (zone_node zone) nodes ≡ o → weight (found_or_next nodes (zone_node zone) o).nodes ≤ weight nodes
      by None e = omega (arith, length-append nodes (zone_node zone ∷ []), one_fewer zone nodes zones h (ap absent e))
      by (Some place) e = omega arith

  weight_fork : (nodes : List Node) (kind : ℕ) (numbers : List ℤ) (a b : Rose)
      → weight (made nodes (two kind numbers a b)).nodes ≤ suc (weight (made (made nodes a).nodes b).nodes)
  weight_fork nodes kind numbers a b = weight_node (made (made nodes a).nodes b).nodes (record { kind = kind; numbers = numbers; successors = (made nodes a).place ∷ (made (made nodes a).nodes b).place ∷ [] })

  weight_edges : (bush : Bush EdgeRecord) (ground : ℤ) (nodes : List Node) → ContainsAt zones ground → AllByRecursion (λ e. ContainsAt zones e.zone) (elements bush)
      → weight (made nodes (edge_tree ground bush)).nodes ≤ weight nodes + length (elements bush)
  weight_edges bare ground nodes g h = omega (arith, weight_zone nodes ground g)
  weight_edges (fork low e high) ground nodes g h =
      let back = all_back (λ f. ContainsAt zones f.zone) (elements low) (e ∷ elements high) h in
      let below = (made nodes (edge_tree ground low)).nodes in
      omega (
        arith,
        weight_fork nodes 2 (e.x1 ∷ e.y1 ∷ e.x2 ∷ e.y2 ∷ []) (edge_tree ground low) (edge_tree e.zone high),
        weight_edges low ground nodes g (all_front (λ f. ContainsAt zones f.zone) (elements low) (e ∷ elements high) h),
        weight_edges high e.zone below back.0 back.1,
        length-append (elements low) (e ∷ elements high),
      )

  module _ (held : List EdgeRecord) (ground : ContainsAt zones (pos 0)) (all : (west : Option ℤ) → AllByRecursion (λ e. ContainsAt zones e.zone) (slab_edges held west)) where
    weight_slab : (west : Option ℤ) (nodes : List Node) → weight (made nodes (slab_tree held west)).nodes ≤ weight nodes + length (slab_edges held west)
    weight_slab west nodes =
        let same = elements_of edges_before edges_halve (slab_edges held west) in
        omega (
          arith,
          weight_edges (bush_of edges_before (slab_edges held west)) (pos 0) nodes ground (subst (AllByRecursion (λ e. ContainsAt zones e.zone)) (sym same) (all west)),
          ap length same,
        )

    sum_append : (c : ℤ → ℕ) (xs ys : List ℤ) → sum_of c (xs ++ ys) ≡ sum_of c xs + sum_of c ys
    sum_append c [] ys = omega arith
    sum_append c (x ∷ xs) ys = omega (arith, sum_append c xs ys)

    pub weight_run : (bush : Bush ℤ) (west : Option ℤ) (nodes : List Node)
        → weight (made nodes (run_tree held west bush)).nodes ≤ weight nodes + length (slab_edges held west) + sum_of (λ x. suc (length (slab_edges held (Some x)))) (elements bush)
    weight_run bare west nodes = omega (arith, weight_slab west nodes)
    weight_run (fork low x high) west nodes =
        let below = (made nodes (run_tree held west low)).nodes in
        omega (
          arith,
          weight_fork nodes 1 (x ∷ []) (run_tree held west low) (run_tree held (Some x) high),
          weight_run low west nodes,
          weight_run high (Some x) below,
          sum_append (λ z. suc (length (slab_edges held (Some z)))) (elements low) (x ∷ elements high),
        )

-- what is made weighs at least its nodes, and nothing weighs no more than the zones
pub nodes_at_most : (zones : List ℤ) (nodes : List Node) (most : ℕ) → weight zones nodes ≤ weight zones [] + most → length nodes ≤ length zones + most
nodes_at_most zones nodes most h = omega (arith, missing_at_most [] zones)
