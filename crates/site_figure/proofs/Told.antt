-- The numbers of the sites in a rectangle, in the order of the sites.
use Rattle.std.proofs.Common.{◌≡◌, ℕ, Bool, false, List, [], ◌∷◌, ◌++◌, map, nat_abs, Some, None, Option, sym, refl, ap, ◌∙◌, ⊎_elim}
use Rattle.std.specs.List.{AllByRecursion}
use Rattle.std.specs.List.Sorted.{IsPermutation}
use Rattle.std.proofs.lemmas.List.{append-nil}
use Rattle.std.proofs.lemmas.List.Sorted.{IsPermutation-refl, IsPermutation-trans, IsPermutation-sym, IsPermutation-cons}
use Rattle.std.proofs.lemmas.Bool.{cases_Bool, cond-true, cond-false, cond_both}
use Rattle.records.specs.declared.raw.SiteRecord.{SiteRecord}
use Rattle.records.specs.declared.raw.Rectangle.{Rectangle}
use Rattle.slices.specs.Order.{placed, placed_each, sorted}
use Rattle.slices.proofs.Placing.{shuffled_from_middle}
use Rattle.sites.specs.Question.{is_inside, inside}
use Rattle.search.specs.Picks.{ahead}
use Rattle.search.proofs.Places.{ahead_append}
use Rattle.site_figure.specs.Judge.{judge_site}
use Rattle.site_figure.proofs.Shuffles.{shuffled_same, shuffled_append}

-- an element ahead of the others, or among them
ahead_middle : {X : Type 0} (o : Option X) (xs ys : List X) → IsPermutation (ahead o (xs ++ ys)) (xs ++ ahead o ys)
ahead_middle None xs ys = IsPermutation-refl (xs ++ ys)
ahead_middle (Some x) xs ys = IsPermutation-sym _ _ (shuffled_from_middle x xs ys)

ahead_shuffled : {X : Type 0} (o : Option X) (xs ys : List X) → IsPermutation xs ys → IsPermutation (ahead o xs) (ahead o ys)
ahead_shuffled None xs ys h = h
ahead_shuffled (Some x) xs ys h = IsPermutation-cons x xs ys h

module _ (q : Rectangle) where
  abbrev pub told : List SiteRecord → List ℕ
  told [] = []
  told (s ∷ sites) = ahead (judge_site q s).emits (told sites)

  pub told_append : (xs ys : List SiteRecord) → told (xs ++ ys) ≡ told xs ++ told ys
  told_append [] ys = refl
  told_append (s ∷ xs) ys =
      ap (ahead (judge_site q s).emits) (told_append xs ys) ∙ sym (ahead_append (judge_site q s).emits (told xs) (told ys))

  -- they are the numbers of those inside
  pub told_is : (sites : List SiteRecord) → told sites ≡ map (λ r. nat_abs r.number) (inside q sites)
  told_is [] = refl
  told_is (s ∷ sites) =
      ⊎_elim
      (λ t. ap (λ o. ahead o (told sites)) (cond-true (is_inside q s) (Some (nat_abs s.number)) None t) ∙ ap (λ (l : List ℕ). nat_abs s.number ∷ l) (told_is sites) ∙ ap (map (λ r. nat_abs r.number)) (sym (cond-true (is_inside q s) (s ∷ inside q sites) (inside q sites) t)))
      (λ f. ap (λ o. ahead o (told sites)) (cond-false (is_inside q s) (Some (nat_abs s.number)) None f) ∙ told_is sites ∙ ap (map (λ r. nat_abs r.number)) (sym (cond-false (is_inside q s) (s ∷ inside q sites) (inside q sites) f)))
      (cases_Bool (is_inside q s))

  pub told_none : (sites : List SiteRecord) → AllByRecursion (λ s. is_inside q s ≡ false) sites → told sites ≡ []
  told_none [] h = refl
  told_none (s ∷ sites) h =
      ap (λ o. ahead o (told sites)) (cond-false (is_inside q s) (Some (nat_abs s.number)) None h.0) ∙ told_none sites h.1

  -- sorting shuffles them
  told_placed : (at_most : SiteRecord → SiteRecord → Bool) (s : SiteRecord) (sites : List SiteRecord)
      → IsPermutation (told (placed at_most s sites)) (told (s ∷ sites))
  told_placed at_most s [] = IsPermutation-refl (told (s ∷ []))
  told_placed at_most s (r ∷ sites) =
      cond_both (at_most r s) (r ∷ placed at_most s sites) (s ∷ r ∷ sites) (λ l. IsPermutation (told l) (told (s ∷ r ∷ sites)))
      (λ _. IsPermutation-trans _ _ _ (ahead_shuffled (judge_site q r).emits (told (placed at_most s sites)) (told (s ∷ sites)) (told_placed at_most s sites)) (ahead_swapped (judge_site q r).emits (judge_site q s).emits (told sites)))
      (λ _. IsPermutation-refl (told (s ∷ r ∷ sites)))
    where
      ahead_swapped : (o p : Option ℕ) (xs : List ℕ) → IsPermutation (ahead o (ahead p xs)) (ahead p (ahead o xs))
      ahead_swapped None p xs = IsPermutation-refl (ahead p xs)
      ahead_swapped (Some x) None xs = IsPermutation-refl (x ∷ xs)
      ahead_swapped (Some x) (Some y) xs = IsPermutation-sym _ _ (shuffled_from_middle x (y ∷ []) xs)

  told_placed_each : (at_most : SiteRecord → SiteRecord → Bool) (kept sites : List SiteRecord)
      → IsPermutation (told (placed_each at_most kept sites)) (told kept ++ told sites)
  told_placed_each at_most kept [] = shuffled_same _ _ (sym (append-nil (told kept)))
  told_placed_each at_most kept (s ∷ sites) =
      IsPermutation-trans _ _ _ (told_placed_each at_most (placed at_most s kept) sites)
      (IsPermutation-trans _ _ _ (shuffled_append (told (placed at_most s kept)) (told (s ∷ kept)) (told sites) (told sites) (told_placed at_most s kept) (IsPermutation-refl (told sites)))
      (IsPermutation-trans _ _ _ (shuffled_same _ _ (ahead_append (judge_site q s).emits (told kept) (told sites))) (ahead_middle (judge_site q s).emits (told kept) (told sites))))

  pub told_sorted : (at_most : SiteRecord → SiteRecord → Bool) (sites : List SiteRecord) → IsPermutation (told (sorted at_most sites)) (told sites)
  told_sorted at_most sites = told_placed_each at_most [] sites
