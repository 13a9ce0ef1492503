-- What a visit of a figure of sites emits.
use Rattle.std.proofs.Common.{◌≡◌, ℕ, true, false, cond, ◌||◌, leb, List, [], ◌∷◌, ◌++◌, map, ℤ, sym, refl, ap, ◌∙◌, ⊎_elim, arith}
use lib.Signed.{le_z, lt_z}
use Rattle.std.specs.List.{flat_map, AllByRecursion}
use Rattle.std.specs.List.Sorted.{IsPermutation}
use Rattle.std.proofs.lemmas.List.{append-nil}
use Rattle.std.proofs.ByRecursion.{All-weaker}
use Rattle.std.proofs.lemmas.Int.{ints}
use Rattle.std.proofs.lemmas.List.Sorted.{IsPermutation-refl, IsPermutation-trans}
use Rattle.std.proofs.lemmas.Bool.{cond_both, and_left, and_right, or_cases}
use Rattle.records.specs.declared.raw.SiteRecord.{SiteRecord}
use Rattle.records.specs.declared.raw.Rectangle.{Rectangle}
use Rattle.records.specs.Range.{within}
use Rattle.slices.specs.Order.{sorted}
use Rattle.slices.proofs.Numbers.{leb_total, leb_transitive, leb_ties}
use Rattle.slices.proofs.Uniqueness.{sorted_shuffled}
use Rattle.sites.specs.Question.{is_inside, sites_in}
use Rattle.search.specs.Judging.{Judgement, nothing}
use Rattle.search.specs.Picks.{ahead, picks}
use Rattle.search.specs.Rose.{Rose}
use Rattle.search.specs.Visit.{visit, emissions_of}
use Rattle.search.proofs.Walking.{emissions_append}
use Rattle.site_figure.specs.Judge.{site_judging, left_then_right, across}
use Rattle.site_figure.specs.Halving.{Tree, none, one, both, tree_of, leaves_of}
use Rattle.site_figure.specs.Figure.{by_x, by_y, least, greatest, y_rose, y_tree, x_rose, x_tree}
use Rattle.site_figure.proofs.Halves.{leaves_tree_of}
use Rattle.site_figure.proofs.Spans.{least_below, greatest_above, all_unmap}
use Rattle.site_figure.proofs.Shuffles.{shuffled_same, shuffled_append}
use Rattle.site_figure.proofs.Told.{told, told_append, told_is, told_none, told_sorted}

below_side : (a high z : ℤ) → lt_z high a ≡ true → le_z z high ≡ true → le_z a z ≡ false
below_side a high z h k = grind (arith, ints)

above_side : (b low z : ℤ) → lt_z b low ≡ true → le_z low z ≡ true → le_z z b ≡ false
above_side b low z h k = grind (arith, ints)

-- a coordinate of a span that is not reached is outside
unreached : (a b low high z : ℤ) → (lt_z high a || lt_z b low) ≡ true → le_z low z ≡ true → le_z z high ≡ true → within a b z ≡ false
unreached a b low high z h above below =
    ⊎_elim (λ e. and_left (le_z a z) (le_z z b) (below_side a high z e below)) (λ e. and_right (le_z a z) (le_z z b) (above_side b low z e above))
    (or_cases (lt_z high a) (lt_z b low) h)

both_all : {X : Type 0} (P Q R : X → Type 0) → ((x : X) → P x → Q x → R x) → (xs : List X) → AllByRecursion P xs → AllByRecursion Q xs → AllByRecursion R xs
both_all P Q R f [] ps qs = tt
both_all P Q R f (x ∷ xs) ps qs = (f x ps.0 qs.0, both_all P Q R f xs ps.1 qs.1)

all_unreached : (coordinate : SiteRecord → ℤ) (a b : ℤ) (sites : List SiteRecord)
    → (lt_z (greatest (map coordinate sites)) a || lt_z b (least (map coordinate sites))) ≡ true → AllByRecursion (λ s. within a b (coordinate s) ≡ false) sites
all_unreached coordinate a b sites h =
    let low : ℤ = least (map coordinate sites) in
    let high : ℤ = greatest (map coordinate sites) in
    both_all (λ s. le_z low (coordinate s) ≡ true) (λ s. le_z (coordinate s) high ≡ true) (λ s. within a b (coordinate s) ≡ false)
    (λ s above below. unreached a b low high (coordinate s) h above below) sites
    (all_unmap (λ z. le_z low z ≡ true) coordinate sites (least_below (map coordinate sites)))
    (all_unmap (λ z. le_z z high ≡ true) coordinate sites (greatest_above (map coordinate sites)))

module _ (q : Rectangle) where
  abbrev emissions : List Rose → List ℕ
  emissions rs = emissions_of site_judging q rs

  -- what is emitted from a node that was judged so
  abbrev emitted : List (List Rose) → Judgement → List ℕ
  emitted visits j = ahead j.emits (emissions (flat_map (λ v. v) (picks visits j.ways)))

  emitted_both : (v w : List Rose) (rest : List (List Rose)) → emitted (v ∷ w ∷ rest) left_then_right ≡ emissions v ++ emissions w
  emitted_both v w rest =
      ap (λ l. emissions (v ++ l)) (append-nil w) ∙ emissions_append site_judging q v w

  emitted_across : (v w u : List Rose) → emitted (v ∷ w ∷ u ∷ []) across ≡ emissions u
  emitted_across v w u = ap emissions (append-nil u)

  unreached_y : (sites : List SiteRecord)
      → (lt_z (greatest (map (λ s. s.y) sites)) q.south || lt_z q.north (least (map (λ s. s.y) sites))) ≡ true → told q sites ≡ []
  unreached_y sites h =
      told_none q sites
      (All-weaker (λ s. within q.south q.north s.y ≡ false) (λ s. is_inside q s ≡ false) (λ s. and_right (within q.west q.east s.x) _)
      sites (all_unreached (λ s. s.y) q.south q.north sites h))

  unreached_x : (sites : List SiteRecord)
      → (lt_z (greatest (map (λ s. s.x) sites)) q.west || lt_z q.east (least (map (λ s. s.x) sites))) ≡ true → told q sites ≡ []
  unreached_x sites h =
      told_none q sites
      (All-weaker (λ s. within q.west q.east s.x ≡ false) (λ s. is_inside q s ≡ false) (λ s. and_left _ (within q.south q.north s.y))
      sites (all_unreached (λ s. s.x) q.west q.east sites h))

  -- a y tree tells the sites inside in their order
  y_told : (t : Tree SiteRecord) → emissions (visit site_judging q (y_rose t)) ≡ told q (leaves_of t)
  y_told none = refl
  y_told (one s) = refl
  y_told (both l r) =
      let v : List Rose = visit site_judging q (y_rose l) in
      let w : List Rose = visit site_judging q (y_rose r) in
      let sites : List SiteRecord = leaves_of l ++ leaves_of r in
      let reached : emitted (v ∷ w ∷ []) left_then_right ≡ told q sites =
      emitted_both v w [] ∙ ap (λ t. t ++ emissions w) (y_told l) ∙ ap (λ t. told q (leaves_of l) ++ t) (y_told r) ∙ sym (told_append q (leaves_of l) (leaves_of r)) in
      cond_both _ nothing left_then_right (λ j. emitted (v ∷ w ∷ []) j ≡ told q sites) (λ h. sym (unreached_y sites h)) (λ _. reached)

  y_tree_told : (sites : List SiteRecord) → IsPermutation (emissions (visit site_judging q (y_tree sites))) (told q sites)
  y_tree_told sites =
      IsPermutation-trans _ _ _ (shuffled_same _ _ (y_told (tree_of (sorted by_y sites)) ∙ ap (told q) (leaves_tree_of (sorted by_y sites)))) (told_sorted q by_y sites)

  -- an x tree tells them in some order
  x_told : (t : Tree SiteRecord) → IsPermutation (emissions (visit site_judging q (x_rose t))) (told q (leaves_of t))
  x_told none = IsPermutation-refl []
  x_told (one s) = IsPermutation-refl (told q (s ∷ []))
  x_told (both l r) =
      let v : List Rose = visit site_judging q (x_rose l) in
      let w : List Rose = visit site_judging q (x_rose r) in
      let sites : List SiteRecord = leaves_of l ++ leaves_of r in
      let u : List Rose = visit site_judging q (y_tree sites) in
      let Tells : Judgement → Type 0 = λ j. IsPermutation (emitted (v ∷ w ∷ u ∷ []) j) (told q sites) in
      let halves : Tells left_then_right =
      IsPermutation-trans _ _ _ (shuffled_same _ _ (emitted_both v w (u ∷ [])))
      (IsPermutation-trans _ _ _ (shuffled_append (emissions v) (told q (leaves_of l)) (emissions w) (told q (leaves_of r)) (x_told l) (x_told r)) (shuffled_same _ _ (sym (told_append q (leaves_of l) (leaves_of r))))) in
      let all : Tells across = IsPermutation-trans _ _ _ (shuffled_same _ _ (emitted_across v w u)) (y_tree_told sites) in
      cond_both _ nothing (cond _ across left_then_right) Tells (λ h. shuffled_same _ _ (sym (unreached_x sites h)))
      (λ _. cond_both _ across left_then_right Tells (λ _. all) (λ _. halves))

  pub figure_told : (sites : List SiteRecord) → sorted leb (emissions (visit site_judging q (x_tree sites))) ≡ sites_in sites q
  figure_told sites =
      let all : IsPermutation (emissions (visit site_judging q (x_tree sites))) (told q sites) =
      IsPermutation-trans _ _ _ (x_told (tree_of (sorted by_x sites)))
      (IsPermutation-trans _ _ _ (shuffled_same _ _ (ap (told q) (leaves_tree_of (sorted by_x sites)))) (told_sorted q by_x sites)) in
      sorted_shuffled leb leb_total leb_transitive _ (told q sites) (leb_ties _) all ∙ ap (sorted leb) (told_is q sites)
