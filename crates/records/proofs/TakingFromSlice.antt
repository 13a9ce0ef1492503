-- The record of a number, taken out of the run of the first elements of a slice.
use Rattle.std.proofs.Common.{◌≡◌, ℕ, ◌-◌, ◌<◌, ◌≤◌, min, List, ◌++◌, length, take, drop, ℤ, Some, sym, ap, ◌∙◌, ⊎_elim, arith, length-take}
use Rattle.std.specs.List.{remove}
use Rattle.std.proofs.lemmas.List.{take_all}
use Rattle.std.proofs.lemmas.Bool.{cases_lt}
use Rattle.slices.specs.Removal.{removed_slice}
use Rattle.slices.proofs.Rewriting.{slice_with_place}
use Rattle.records.specs.Held.{left_of, place_from, taken_out}
use Rattle.records.proofs.Held.{found_out}

-- the run ends with the slice at the latest
pub run_is : {A : Type 0} (kept : List A) (len run : ℕ) → run ≡ min len (length kept) → take run kept ≡ take len kept
run_is kept len run e =
    ⊎_elim
    (λ (h : len < length kept). let same : run ≡ len = omega arith in ap (λ (m : ℕ). take m kept) same)
    (λ (h : length kept ≤ len). let same : run ≡ length kept = omega arith in take_all run kept (omega arith) ∙ sym (take_all len kept h))
    (cases_lt len (length kept))

pub run_length : {A : Type 0} (kept : List A) (len run : ℕ) → run ≡ min len (length kept) → length (take len kept) ≡ run
run_length kept len run e = length-take len kept ∙ sym e

module _ {A : Type 0} (number_of : A → ℤ) (n : ℤ) (kept : List A) (len run at : ℕ) (ends : run ≡ min len (length kept)) (found : place_from 0 number_of n (take len kept) ≡ Some at) where
  pub found_within : at < run
  found_within =
      let out = found_out number_of n 0 at (take len kept) found in
      omega (arith, out.1, out.2, run_length kept len run ends)

  pub taking_leaves : removed_slice kept run at ≡ left_of number_of n len kept
  taking_leaves =
      let out = found_out number_of n 0 at (take len kept) found in
      let place : at ≡ out.0 = omega (arith, out.1) in
      slice_with_place kept run at found_within (omega (arith, ends)) ∙ ap (λ (l : List A). remove l at ++ drop (run - 1) kept) (run_is kept len run ends) ∙ ap (λ (m : ℕ). remove (take len kept) m ++ drop (run - 1) kept) place ∙ ap (λ (l : List A). l ++ drop (run - 1) kept) (sym out.3) ∙ ap (λ (m : ℕ). taken_out number_of n (take len kept) ++ drop (m - 1) kept) (sym (run_length kept len run ends))
