-- How many bytes the strings of a visit have at most.
use Rattle.std.proofs.Common.{◌≡◌, ℕ, ◌+◌, ◌*◌, ◌≤◌, max, ◌&&◌, ◌||◌, List, [], ◌∷◌, ◌++◌, map, length, ℤ, ◌∙◌, arith}
use lib.Signed.{le_z, lt_z}
use Rattle.std.specs.List.{flat_map}
use Rattle.std.proofs.lemmas.Bool.{cond_both}
use Rattle.records.specs.declared.raw.SiteRecord.{SiteRecord}
use Rattle.records.specs.declared.raw.Rectangle.{Rectangle}
use Rattle.slices.specs.Order.{sorted}
use Rattle.slices.proofs.SortedLists.{length_sorted}
use Rattle.search.specs.Judging.{Judgement, nothing}
use Rattle.search.specs.Picks.{picks}
use Rattle.search.specs.Rose.{Rose}
use Rattle.search.specs.Visit.{visit, roses_bytes}
use Rattle.site_figure.specs.Judge.{site_judging, left_then_right, across, judge_xspan, judge_yspan}
use Rattle.site_figure.specs.Halving.{Tree, none, one, both, tree_of, leaves_of}
use Rattle.site_figure.specs.Figure.{by_x, by_y, least, greatest, y_rose, y_tree, x_rose, x_tree}
use Rattle.site_figure.proofs.Halves.{leaf_count, leaf_count_some, leaves_below_count, leaf_count_tree_of}

pub roses_bytes_append : (rs ss : List Rose) → roses_bytes (rs ++ ss) ≡ roses_bytes rs + roses_bytes ss
roses_bytes_append [] ss = omega arith
roses_bytes_append (r ∷ rs) ss = omega (arith, roses_bytes_append rs ss)

-- the bytes below a node that was judged so
abbrev below : List (List Rose) → Judgement → ℕ
below visits j = roses_bytes (flat_map (λ v. v) (picks visits j.ways))

two_ways : (v w : List Rose) (rest : List (List Rose)) → below (v ∷ w ∷ rest) left_then_right ≡ roses_bytes v + roses_bytes w
two_ways v w rest = roses_bytes_append v (w ++ []) ∙ omega (arith, roses_bytes_append w [])

one_way : (v w u : List Rose) → below (v ∷ w ∷ u ∷ []) across ≡ roses_bytes u
one_way v w u = roses_bytes_append u [] ∙ omega arith

below_y : (v w : List Rose) (q : Rectangle) (low high : ℤ) → below (v ∷ w ∷ []) (judge_yspan q low high) ≤ roses_bytes v + roses_bytes w
below_y v w q low high =
    cond_both (lt_z high q.south || lt_z q.north low) nothing left_then_right (λ j. below (v ∷ w ∷ []) j ≤ roses_bytes v + roses_bytes w)
    (λ _. omega arith) (λ _. omega (arith, two_ways v w []))

below_x : (v w u : List Rose) (q : Rectangle) (low high : ℤ)
    → below (v ∷ w ∷ u ∷ []) (judge_xspan q low high) ≤ max (roses_bytes v + roses_bytes w) (roses_bytes u)
below_x v w u q low high =
    let Bound : Judgement → Type 0 = λ j. below (v ∷ w ∷ u ∷ []) j ≤ max (roses_bytes v + roses_bytes w) (roses_bytes u) in
    cond_both (lt_z high q.west || lt_z q.east low) nothing _ Bound (λ _. omega arith)
    (λ _. cond_both (le_z q.west low && le_z high q.east) across left_then_right Bound (λ _. omega (arith, one_way v w u)) (λ _. omega (arith, two_ways v w (u ∷ []))))

module _ (q : Rectangle) where
  abbrev visit_bytes : Rose → ℕ
  visit_bytes rose = roses_bytes (visit site_judging q rose)

  -- a y span's string has 76 bytes, a site's 16
  y_bytes : (t : Tree SiteRecord) → visit_bytes (y_rose t) + 76 ≤ 92 * leaf_count t
  y_bytes none = omega arith
  y_bytes (one s) = omega arith
  y_bytes (both l r) =
      let here : visit_bytes (y_rose (both l r)) ≤ 76 + (visit_bytes (y_rose l) + visit_bytes (y_rose r)) =
      omega (arith, below_y (visit site_judging q (y_rose l)) (visit site_judging q (y_rose r)) q (least (map (λ s. s.y) (leaves_of l ++ leaves_of r))) (greatest (map (λ s. s.y) (leaves_of l ++ leaves_of r)))) in
      omega (arith, y_bytes l, y_bytes r)

  -- an x span's string has 108 bytes
  x_bytes : (t : Tree SiteRecord) → visit_bytes (x_rose t) + 108 ≤ 162 * leaf_count t
  x_bytes none = omega arith
  x_bytes (one s) = omega arith
  x_bytes (both l r) =
      let sites : List SiteRecord = leaves_of (both l r) in
      let here : visit_bytes (x_rose (both l r)) ≤ 108 + max (visit_bytes (x_rose l) + visit_bytes (x_rose r)) (visit_bytes (y_tree sites)) =
      omega (arith, below_x (visit site_judging q (x_rose l)) (visit site_judging q (x_rose r)) (visit site_judging q (y_tree sites)) q (least (map (λ s. s.x) sites)) (greatest (map (λ s. s.x) sites))) in
      let some = leaf_count_some l in
      let others = leaf_count_some r in
      let count : leaf_count (tree_of (sorted by_y sites)) ≤ leaf_count l + leaf_count r =
      omega (arith, leaf_count_tree_of (sorted by_y sites), length_sorted by_y sites, leaves_below_count (both l r)) in
      omega (arith, x_bytes l, x_bytes r, y_bytes (tree_of (sorted by_y sites)))

  pub figure_bytes : (sites : List SiteRecord) → length sites ≤ 128 → visit_bytes (x_tree sites) ≤ 20628
  figure_bytes sites few =
      omega (arith, x_bytes (tree_of (sorted by_x sites)), leaf_count_tree_of (sorted by_x sites), length_sorted by_x sites)
