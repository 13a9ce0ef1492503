-- The root of a rose's figure is its last node.
use Rattle.std.proofs.Common.{◌≡◌, ℕ, suc, ◌<◌, ◌≤◌, List, [], ◌∷◌, length, ℤ, Some, None, Option, sym, refl, ap, ◌∙◌, subst, arith, length-append}
use Rattle.std.specs.List.{slice_get}
use Rattle.search.specs.Node.{Node}
use Rattle.search.specs.Figure.{root_of}
use Rattle.search.specs.Rose.{Rose, Roses, grown, end, more, levels, levels_of_each}
use Rattle.search.specs.Making.{place_of_alike, found_or_next, made, made_each, figure_of, Stands, StandEach, RootIsLast, RosesStandInTheirFigures}
use Rattle.search.proofs.Places.{some_same, nth_bound}
use Rattle.search.proofs.Growing.{node, node_parts, found_alike, Throughout, ThroughoutEach, Covered, IsMade, AreMade, made_rose, made_roses}

nil_is_not_cons : {X : Type 0} (x : X) (xs ys : List X) → ys ≡ [] → ys ≡ x ∷ xs → ⊥
nil_is_not_cons x xs ys e f = let z : ◌≡◌ {A = ℕ} 0 (suc (length xs)) = sym (ap length e) ∙ ap length f in omega arith

cons_parts : {X : Type 0} (x y : X) (xs ys zs : List X) → zs ≡ x ∷ xs → zs ≡ y ∷ ys → (x ≡ y) × (xs ≡ ys)
cons_parts x y xs ys zs e f = (cc, cc)

-- two roses that stand at one place are equal
mutual
  pub stands_same : (figure : List Node) (r s : Rose) (p : ℕ) → Stands figure r p → Stands figure s p → r ≡ s
  stands_same figure (grown k zs rs) (grown l ws ss) p h g =
      let parts = node_parts k l zs ws h.0 g.0 (some_same _ _ (sym h.1 ∙ g.1)) in
      let below = stand_each_same figure rs ss h.0 h.2 (subst (StandEach figure ss) (sym parts.2) g.2) in
      let kinds = parts.0 in
      let numbers = parts.1 in
      λ i. grown (kinds i) (numbers i) (below i)

  pub stand_each_same : (figure : List Node) (rs ss : Roses) (places : List ℕ) → StandEach figure rs places → StandEach figure ss places → rs ≡ ss
  stand_each_same figure end end places h g = refl
  stand_each_same figure end (more s ss) places h g = absurd (nil_is_not_cons g.0 g.1 places h g.2)
  stand_each_same figure (more r rs) end places h g = absurd (nil_is_not_cons h.0 h.1 places g h.2)
  stand_each_same figure (more r rs) (more s ss) places h g =
      let parts = cons_parts h.0 g.0 h.1 g.1 places h.2 g.2 in
      let first = stands_same figure r s h.0 h.3 (subst (Stands figure s) (sym parts.0) g.3) in
      let rest = stand_each_same figure rs ss h.1 h.4 (subst (StandEach figure ss) (sym parts.1) g.4) in
      λ i. more (first i) (rest i)

mutual
  throughout_levels : (b : ℕ) (r : Rose) → levels r ≤ b → Throughout (λ s. levels s ≤ b) r
  throughout_levels b (grown k zs rs) h = (h, throughout_levels_each b rs (omega arith))

  throughout_levels_each : (b : ℕ) (rs : Roses) → levels_of_each rs ≤ b → ThroughoutEach (λ s. levels s ≤ b) rs
  throughout_levels_each b end h = tt
  throughout_levels_each b (more r rs) h = (throughout_levels b r (omega arith), throughout_levels_each b rs (omega arith))

covers_none : (P : Rose → Type 0) → Covered P []
covers_none P p h = absurd (omega arith)

-- the last of the nodes is where a new one was put
pub record IsRoot (nodes : List Node) (p : ℕ) : Type 0 where
  pub last : p ≡ root_of nodes
  pub some : 0 < length nodes

root_made : (k : ℕ) (zs : List ℤ) (rs : Roses) → IsRoot (figure_of (grown k zs rs)) (made [] (grown k zs rs)).place
root_made k zs rs = go (place_of_alike (node k zs (made_each [] rs).places) (made_each [] rs).nodes) refl
  where
    each : AreMade (λ s. levels s ≤ levels_of_each rs) [] rs (made_each [] rs)
    each = made_roses (λ s. levels s ≤ levels_of_each rs) [] rs (covers_none (λ s. levels s ≤ levels_of_each rs)) (throughout_levels_each (levels_of_each rs) rs (omega arith))

    never : (p : ℕ) (s : Rose) → slice_get (made_each [] rs).nodes p ≡ Some (node k zs (made_each [] rs).places) → Stands (made_each [] rs).nodes s p → levels s ≤ levels_of_each rs → ⊥
    never p (grown l ws ss) found stands low =
        let parts = node_parts l k ws zs stands.0 (made_each [] rs).places (some_same _ _ (sym stands.1 ∙ found)) in
        let below = stand_each_same (made_each [] rs).nodes rs ss (made_each [] rs).places each.stand (subst (StandEach (made_each [] rs).nodes ss) parts.2 stands.2) in
        let same = ap levels_of_each below in
        omega arith

    go : (o : Option ℕ) → place_of_alike (node k zs (made_each [] rs).places) (made_each [] rs).nodes ≡ o
        → IsRoot (found_or_next (made_each [] rs).nodes (node k zs (made_each [] rs).places) o).nodes (found_or_next (made_each [] rs).nodes (node k zs (made_each [] rs).places) o).place
    go (Some p) e =
        let found = found_alike (node k zs (made_each [] rs).places) (made_each [] rs).nodes p e in
        let w = each.covered p (nth_bound (made_each [] rs).nodes p _ found) in
        absurd (never p w.0 found w.1 w.2)
    go None e =
        let n = length-append (made_each [] rs).nodes (node k zs (made_each [] rs).places ∷ []) in
        record { last = omega arith; some = omega arith }

pub root_is_last_lem : RootIsLast
root_is_last_lem (grown k zs rs) = let root = root_made k zs rs in (root.last, root.some)

-- the figure of a rose, with what holds throughout the rose
pub figure_made : (P : Rose → Type 0) (r : Rose) → Throughout P r → IsMade P [] r (made [] r)
figure_made P r h = made_rose P [] r (covers_none P) h

mutual
  throughout_all : (r : Rose) → Throughout (λ s. Unit {0}) r
  throughout_all (grown k zs rs) = (tt, throughout_all_each rs)

  throughout_all_each : (rs : Roses) → ThroughoutEach (λ s. Unit {0}) rs
  throughout_all_each end = tt
  throughout_all_each (more r rs) = (throughout_all r, throughout_all_each rs)

pub stands_at_root : RosesStandInTheirFigures
stands_at_root r = subst (Stands (figure_of r) r) (root_is_last_lem r).0 (figure_made (λ s. Unit {0}) r (throughout_all r)).stands
