-- The four numbers of a view, cut to as many as the string has, are its numbers.
use Rattle.std.proofs.Common.{◌≡◌, ◌≤◌, List, [], ◌∷◌, length, take, ℤ, refl, arith}
use Rattle.std.specs.List.{slice_get}
use Rattle.reader.specs.Views.{or_zero}

pub four_of : (numbers : List ℤ) → length numbers ≤ 4
    → take (length numbers) (or_zero (slice_get numbers 0) ∷ or_zero (slice_get numbers 1) ∷ or_zero (slice_get numbers 2) ∷ or_zero (slice_get numbers 3) ∷ []) ≡ numbers
four_of [] few = refl
four_of (a ∷ []) few = refl
four_of (a ∷ b ∷ []) few = refl
four_of (a ∷ b ∷ c ∷ []) few = refl
four_of (a ∷ b ∷ c ∷ d ∷ []) few = refl
four_of (a ∷ b ∷ c ∷ d ∷ e ∷ numbers) few = absurd (omega arith)
