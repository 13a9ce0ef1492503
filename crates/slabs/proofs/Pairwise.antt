-- A symmetric relation between any two elements of a list at different places is kept by every reordering.
-- Assumes nothing.
use Rattle.std.proofs.Common.{◌≡◌, ℕ, zero, suc, ◌<◌, ◌⊎◌, List, [], ◌∷◌, length, get_or, sym, refl, subst, subst₂, inl, inr, ⊎_elim, arith}
use Rattle.std.specs.List.{swap, AllByRecursion}
use Rattle.std.specs.List.Sorted.{IsPermutation}
use Rattle.std.proofs.lemmas.List.Edits.{Swapped, swapped_from_swap, length-swap}
use Rattle.std.proofs.ByRecursion.{All-get_or, All-from_get_or}
use Rattle.std.proofs.lemmas.List.Sorted.{IsPermutation-keeps}
use Rattle.std.proofs.lemmas.Bool.{cases_eq}

-- the place k after an exchange of the places a and b holds what was at m
abbrev Comes : ℕ → ℕ → ℕ → ℕ → Type 0
Comes a b k m = ((k ≡ a) × (m ≡ b)) ⊎ (((k ≡ b) × (m ≡ a)) ⊎ ((k ≡ a → ⊥) × (k ≡ b → ⊥) × (m ≡ k)))

comes_from_different : (a b i j m n : ℕ) → Comes a b i m → Comes a b j n → (i ≡ j → ⊥) → m ≡ n → ⊥
comes_from_different a b i j m n p q different e =
    ⊎_elim (λ u. ⊎_elim (λ v. omega arith) (⊎_elim (λ v. omega arith) (λ v. omega arith)) q)
    (⊎_elim (λ u. ⊎_elim (λ v. omega arith) (⊎_elim (λ v. omega arith) (λ v. omega arith)) q)
    (λ u. ⊎_elim (λ v. omega arith) (⊎_elim (λ v. omega arith) (λ v. omega arith)) q))
    p

module _ {X : Type 0} (R : X → X → Type 0) where
  abbrev pub Pairwise : List X → Type 0
  Pairwise [] = Unit {0}
  Pairwise (x ∷ xs) = AllByRecursion (R x) xs × Pairwise xs

  abbrev ByPlaces : List X → Type 0
  ByPlaces xs = (i j : ℕ) (d : X) → i < length xs → j < length xs → (i ≡ j → ⊥) → R (get_or xs i d) (get_or xs j d)

  by_places : ((x y : X) → R x y → R y x) → (xs : List X) → Pairwise xs → ByPlaces xs
  by_places turn [] h i j d p q n = absurd (n (omega arith))
  by_places turn (x ∷ xs) h zero zero d p q n = absurd (n refl)
  by_places turn (x ∷ xs) h zero (suc j) d p q n = All-get_or (R x) xs j d (omega arith) h.0
  by_places turn (x ∷ xs) h (suc i) zero d p q n = turn x (get_or xs i d) (All-get_or (R x) xs i d (omega arith) h.0)
  by_places turn (x ∷ xs) h (suc i) (suc j) d p q n = by_places turn xs h.1 i j d (omega arith) (omega arith) (λ e. n (omega arith))

  from_places : (xs : List X) → ByPlaces xs → Pairwise xs
  from_places [] h = tt
  from_places (x ∷ xs) h = (All-from_get_or (R x) xs x (λ j p. h zero (suc j) x (omega arith) (omega arith) (λ e. omega arith)), from_places xs (λ i j d p q n. h (suc i) (suc j) d (omega arith) (omega arith) (λ e. n (omega arith))))

  exchange_keeps : (l : List X) (a b : ℕ) → a < length l → b < length l → ByPlaces l → ByPlaces (swap l a b)
  exchange_keeps [] a b p q h i j d u v n = absurd (below_none p)
    where
      below_none : a < 0 → ⊥
      below_none k = omega arith
  exchange_keeps (x ∷ xs) a b p q h i j d u v n =
      let from-i = origin i (omega (arith, length-swap (x ∷ xs) a b)) in
      let from-j = origin j (omega (arith, length-swap (x ∷ xs) a b)) in
      subst₂ R (sym from-i.3) (sym from-j.3) (h from-i.0 from-j.0 d from-i.2 from-j.2 (comes_from_different a b i j from-i.0 from-j.0 from-i.1 from-j.1 n))
    where
      ys : List X
      ys = swap (x ∷ xs) a b

      swapped : Swapped (λ k. get_or (x ∷ xs) k d) (λ k. get_or ys k d) a b
      swapped = swapped_from_swap (x ∷ xs) ys a b d p q refl

      origin : (k : ℕ) → k < length (x ∷ xs) → (m : ℕ) × Comes a b k m × (m < length (x ∷ xs)) × (get_or ys k d ≡ get_or (x ∷ xs) m d)
      origin k l = ⊎_elim (λ e. (b, inl (e, refl), q, subst (λ z. get_or ys z d ≡ get_or (x ∷ xs) b d) (sym e) swapped.0))
          (λ not_a. ⊎_elim (λ e. (a, inr (inl (e, refl)), p, subst (λ z. get_or ys z d ≡ get_or (x ∷ xs) a d) (sym e) swapped.1))
          (λ not-b. (k, inr (inr (not_a, not-b, refl)), l, swapped.2 k not_a not-b)) (cases_eq k b)) (cases_eq k a)

  pub pairwise_shuffled : ((x y : X) → R x y → R y x) → (xs ys : List X) → IsPermutation xs ys → Pairwise xs → Pairwise ys
  pairwise_shuffled turn xs ys s h = from_places ys (IsPermutation-keeps xs ByPlaces (by_places turn xs h) exchange_keeps ys s)
