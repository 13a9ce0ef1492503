-- Lists with the same elements, joined.
use Rattle.std.proofs.Common.{◌≡◌, List, [], ◌∷◌, ◌++◌, sym, subst}
use Rattle.std.specs.List.Sorted.{IsPermutation}
use Rattle.std.proofs.lemmas.List.{append-nil}
use Rattle.std.proofs.lemmas.List.Sorted.{IsPermutation-refl, IsPermutation-sym, IsPermutation-trans, IsPermutation-cons}
use Rattle.slices.proofs.Placing.{shuffled_from_middle}

module _ {X : Type 0} where
  pub shuffled_same : (xs ys : List X) → xs ≡ ys → IsPermutation xs ys
  shuffled_same xs ys e = subst (λ t. IsPermutation xs t) e (IsPermutation-refl xs)

  after_front : (front xs ys : List X) → IsPermutation xs ys → IsPermutation (front ++ xs) (front ++ ys)
  after_front [] xs ys h = h
  after_front (x ∷ front) xs ys h = IsPermutation-cons x (front ++ xs) (front ++ ys) (after_front front xs ys h)

  exchanged_parts : (xs ys : List X) → IsPermutation (xs ++ ys) (ys ++ xs)
  exchanged_parts [] ys = shuffled_same ys (ys ++ []) (sym (append-nil ys))
  exchanged_parts (x ∷ xs) ys =
      IsPermutation-trans _ _ _ (IsPermutation-cons x (xs ++ ys) (ys ++ xs) (exchanged_parts xs ys))
      (IsPermutation-sym _ _ (shuffled_from_middle x ys xs))

  pub shuffled_append : (xs xs' ys ys' : List X) → IsPermutation xs xs' → IsPermutation ys ys' → IsPermutation (xs ++ ys) (xs' ++ ys')
  shuffled_append xs xs' ys ys' h k =
      IsPermutation-trans _ _ _ (after_front xs ys ys' k)
      (IsPermutation-trans _ _ _ (exchanged_parts xs ys') (IsPermutation-trans _ _ _ (after_front ys' xs xs' h) (exchanged_parts ys' xs')))
