-- The place that a search for a number finds.
use Rattle.std.proofs.Common.{◌≡◌, ℕ, suc, ◌+◌, cond, nat_lt, List, [], ◌∷◌, length, ℤ, Some, None, Option, sym, refl, ap, ◌∙◌, arith}
use Rattle.std.specs.List.{position_from, position_or_len}
use Rattle.std.proofs.lemmas.Iterator.Adapters.{position_from-zero}
use Rattle.records.specs.Held.{same_number, place_from}

module _ {R : Type 0} (number_of : R → ℤ) (n : ℤ) where
  places_agree : (k : ℕ) (rs : List R) → place_from k number_of n rs ≡ position_from (λ r. same_number (number_of r) n) k rs
  places_agree k [] = refl
  places_agree k (r ∷ rs) =
      let next : suc k ≡ k + 1 = omega arith in
      ap (λ o. cond (same_number (number_of r) n) (Some k) o) (places_agree (suc k) rs ∙ ap (λ m. position_from (λ s. same_number (number_of s) n) m rs) next)

  pub place_found : (rs : List R) (found : Option ℕ)
      → found ≡ cond (nat_lt (position_or_len (λ r. same_number (number_of r) n) rs) (length rs)) (Some (position_or_len (λ r. same_number (number_of r) n) rs)) None
      → found ≡ place_from 0 number_of n rs
  place_found rs found is = is ∙ position_from-zero (λ r. same_number (number_of r) n) rs ∙ sym (places_agree 0 rs)
