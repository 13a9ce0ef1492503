-- The elements of a list and of a filtered list.
-- Assumes nothing.
use Rattle.std.proofs.Common.{◌≡◌, ℕ, zero, suc, ◌<◌, Bool, true, false, ◌⊎◌, List, [], ◌∷◌, length, get_or, filter, refl, ◌∙◌, subst, inl, inr, ⊎_elim, arith}
use Rattle.std.specs.List.{ContainsAt, AllByRecursion}
use Rattle.std.proofs.ByRecursion.{all-has, all_has_itself, All-weaker, all_kept_by, kept_by_passes}
use Rattle.std.proofs.lemmas.Bool.{both_ways, cond_both, cond-false}

module _ {X : Type 0} where
  pub has_cases : (x : X) (xs : List X) (y : X) → ContainsAt (x ∷ xs) y → (x ≡ y) ⊎ ContainsAt xs y
  has_cases x xs y h = by h.0 h.1 h.2
    where
      by : (k : ℕ) → k < length (x ∷ xs) → ((d : X) → get_or (x ∷ xs) k d ≡ y) → (x ≡ y) ⊎ ContainsAt xs y
      by zero l e = inl (e x)
      by (suc k) l e = inr (k, omega arith, e)

  pub has_none : (y : X) → ContainsAt [] y → ⊥
  has_none y h = let l = h.1 in omega arith

  pub has_first : (x : X) (xs : List X) → ContainsAt (x ∷ xs) x
  has_first x xs = (0, omega arith, λ d. refl)

  pub has_later : (x : X) (xs : List X) (y : X) → ContainsAt xs y → ContainsAt (x ∷ xs) y
  has_later x xs y h = let l = h.1 in (suc h.0, omega arith, h.2)

  pub all_from_has : (P : X → Type 0) (xs : List X) → ((x : X) → ContainsAt xs x → P x) → AllByRecursion P xs
  all_from_has P xs h = All-weaker (ContainsAt xs) P h xs (all_has_itself xs)

  module _ (test : X → Bool) where
    pub kept→has : (xs : List X) (y : X) → ContainsAt (filter test xs) y → ContainsAt xs y
    kept→has xs y h = all-has (ContainsAt xs) (filter test xs) y (all_kept_by test (ContainsAt xs) xs (all_has_itself xs)) h

    pub kept→passes : (xs : List X) (y : X) → ContainsAt (filter test xs) y → test y ≡ true
    kept→passes xs y h = all-has (λ x. test x ≡ true) (filter test xs) y (kept_by_passes test xs) h

    pub has→kept : (xs : List X) (y : X) → ContainsAt xs y → test y ≡ true → ContainsAt (filter test xs) y
    has→kept [] y h t = h
    has→kept (x ∷ xs) y h t = ⊎_elim
        (λ e. kept_of (λ _. subst (λ z. ContainsAt (x ∷ filter test xs) z) e (has_first x (filter test xs))) (λ f. absurd (both_ways (test y) (subst (λ z. test z ≡ false) e f) t)))
        (λ k. let later = has→kept xs y k t in kept_of (λ _. has_later x (filter test xs) y later) (λ _. later)) (has_cases x xs y h)
      where
        kept_of : (test x ≡ true → ContainsAt (x ∷ filter test xs) y) → (test x ≡ false → ContainsAt (filter test xs) y) → ContainsAt (filter test (x ∷ xs)) y
        kept_of = cond_both (test x) (x ∷ filter test xs) (filter test xs) (λ l. ContainsAt l y)

    pub none_kept : (xs : List X) → AllByRecursion (λ x. test x ≡ false) xs → filter test xs ≡ []
    none_kept [] h = refl
    none_kept (x ∷ xs) h = cond-false (test x) (x ∷ filter test xs) (filter test xs) h.0 ∙ none_kept xs h.1
