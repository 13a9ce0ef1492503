-- How many wait at once while a figure of sites is walked.
use Rattle.std.proofs.Common.{ℕ, suc, ◌≤◌, max, ◌&&◌, ◌||◌, List, [], ◌∷◌, map, length, ℤ, arith}
use lib.Signed.{le_z, lt_z}
use Rattle.std.proofs.lemmas.Bool.{cond_both}
use Rattle.records.specs.declared.raw.SiteRecord.{SiteRecord}
use Rattle.records.specs.declared.raw.Rectangle.{Rectangle}
use Rattle.slices.specs.Order.{sorted}
use Rattle.search.specs.Judging.{Judgement, nothing}
use Rattle.search.specs.Picks.{picks}
use Rattle.search.specs.Visit.{crowd, crowd_of}
use Rattle.site_figure.specs.Judge.{site_judging, left_then_right, across, judge_xspan, judge_yspan}
use Rattle.site_figure.specs.Halving.{Tree, none, one, both, tree_of, leaves_of}
use Rattle.site_figure.specs.Figure.{by_x, by_y, least, greatest, y_rose, y_tree, x_rose, x_tree}
use Rattle.site_figure.proofs.Halves.{height}
use Rattle.site_figure.proofs.SortedTrees.{height_sorted_leaves, height_few}

-- the most that wait below a node that was judged so, by what waits alone in each successor
abbrev crowd_by : List ℕ → Judgement → ℕ
crowd_by alone j = max 1 (crowd_of (picks alone j.ways))

-- the second waits while the first is walked
crowd_y : (a b most : ℕ) (q : Rectangle) (low high : ℤ) → a ≤ most → b ≤ most → crowd_by (a ∷ b ∷ []) (judge_yspan q low high) ≤ suc most
crowd_y a b most q low high ha hb =
    cond_both (lt_z high q.south || lt_z q.north low) nothing left_then_right (λ j. crowd_by (a ∷ b ∷ []) j ≤ suc most) (λ _. omega arith) (λ _. omega arith)

crowd_x : (a b c most : ℕ) (q : Rectangle) (low high : ℤ) → a ≤ most → b ≤ most → c ≤ suc most → crowd_by (a ∷ b ∷ c ∷ []) (judge_xspan q low high) ≤ suc most
crowd_x a b c most q low high ha hb hc =
    cond_both (lt_z high q.west || lt_z q.east low) nothing _ (λ j. crowd_by (a ∷ b ∷ c ∷ []) j ≤ suc most) (λ _. omega arith)
    (λ _. cond_both (le_z q.west low && le_z high q.east) across left_then_right (λ j. crowd_by (a ∷ b ∷ c ∷ []) j ≤ suc most) (λ _. omega arith) (λ _. omega arith))

module _ (q : Rectangle) where
  y_crowd : (t : Tree SiteRecord) → crowd site_judging q (y_rose t) ≤ suc (height t)
  y_crowd none = omega arith
  y_crowd (one s) = omega arith
  y_crowd (both l r) =
      let sites : List SiteRecord = leaves_of (both l r) in
      crowd_y (crowd site_judging q (y_rose l)) (crowd site_judging q (y_rose r)) (suc (max (height l) (height r))) q (least (map (λ s. s.y) sites)) (greatest (map (λ s. s.y) sites))
      (omega (arith, y_crowd l)) (omega (arith, y_crowd r))

  -- going across, nothing is left waiting in the span
  x_crowd : (t : Tree SiteRecord) → crowd site_judging q (x_rose t) ≤ suc (height t)
  x_crowd none = omega arith
  x_crowd (one s) = omega arith
  x_crowd (both l r) =
      let sites : List SiteRecord = leaves_of (both l r) in
      crowd_x (crowd site_judging q (x_rose l)) (crowd site_judging q (x_rose r)) (crowd site_judging q (y_tree sites)) (suc (max (height l) (height r))) q (least (map (λ s. s.x) sites)) (greatest (map (λ s. s.x) sites))
      (omega (arith, x_crowd l)) (omega (arith, x_crowd r)) (omega (arith, y_crowd (tree_of (sorted by_y sites)), height_sorted_leaves by_y (both l r)))

  pub figure_crowd : (sites : List SiteRecord) → length sites ≤ 128 → crowd site_judging q (x_tree sites) ≤ 8
  figure_crowd sites few = omega (arith, x_crowd (tree_of (sorted by_x sites)), height_few by_x sites few)
