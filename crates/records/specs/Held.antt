-- The records that a register holds, in rising number.
use Rattle.std.specs.Prelude.{◌≡◌, ℕ, suc, ◌-◌, Bool, false, cond, ◌&&◌, ◌||◌, List, [], ◌∷◌, ◌++◌, length, take, drop, ℤ, Some, None, Option, int_le, int_lt}
use Rattle.refusal.specs.declared.Refusal.{Refusal}
use Rattle.refusal.specs.declared.Refusal.TheVariants.{NumberNotHeld}
use Rattle.slices.specs.Order.{placed}

abbrev pub same_number : ℤ → ℤ → Bool
same_number m n = int_le m n && int_le n m

-- A record with that number is among them.
abbrev pub holds : {R : Type 0} → (R → ℤ) → ℤ → List R → Bool
holds number_of n [] = false
holds number_of n (r ∷ rs) = same_number (number_of r) n || holds number_of n rs

-- By number, one record is at most the other.
abbrev pub by_number : {R : Type 0} → (R → ℤ) → R → R → Bool
by_number number_of r s = int_le (number_of r) (number_of s)

-- The number of r is less than that of s.
abbrev pub is_before : {R : Type 0} → (R → ℤ) → R → R → Bool
is_before number_of r s = int_lt (number_of r) (number_of s)

-- The records with r put in at its place.
abbrev pub put_in : {R : Type 0} → (R → ℤ) → R → List R → List R
put_in number_of r rs = placed (by_number number_of) r rs

-- The records with the one of that number taken out.
abbrev pub taken_out : {R : Type 0} → (R → ℤ) → ℤ → List R → List R
taken_out number_of n [] = []
taken_out number_of n (r ∷ rs) = cond (same_number (number_of r) n) rs (r ∷ taken_out number_of n rs)

-- What taking that number out of the run of the first len elements leaves: from the run's new end on all is as it was.
abbrev pub left_of : {R : Type 0} → (R → ℤ) → ℤ → ℕ → List R → List R
left_of number_of n len kept =
    taken_out number_of n (take len kept) ++ drop (length (take len kept) - 1) kept

-- Remove is refused exactly when the number is not held.
abbrev pub remove_refusal : {R : Type 0} → (R → ℤ) → List R → ℤ → Option Refusal
remove_refusal number_of rs n = cond (holds number_of n rs) None (Some NumberNotHeld)

-- Records that a register can hold: none at first, then what unrefused adds and removes make of them.
pub data Holdable {R : Type 0} (number_of : R → ℤ) (add_refusal : List R → R → Option Refusal) : List R → Type 0 where
  fresh : Holdable number_of add_refusal []
  added : {rs : List R} (r : R) → Holdable number_of add_refusal rs → add_refusal rs r ≡ None → Holdable number_of add_refusal (put_in number_of r rs)
  removed : {rs : List R} (n : ℤ) → Holdable number_of add_refusal rs → remove_refusal number_of rs n ≡ None → Holdable number_of add_refusal (taken_out number_of n rs)

-- The first place of a record with that number, counted from k.
abbrev pub place_from : {R : Type 0} → ℕ → (R → ℤ) → ℤ → List R → Option ℕ
place_from k number_of n [] = None
place_from k number_of n (r ∷ rs) = cond (same_number (number_of r) n) (Some k) (place_from (suc k) number_of n rs)
