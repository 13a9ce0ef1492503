-- The record of a number, taken out of a run.
use Rattle.std.proofs.Common.{◌≡◌, ℕ, ◌<◌, List, length, ℤ, Some, Ok, Err, sym, ap, ◌∙◌, arith}
use Rattle.std.specs.List.{remove}
use Rattle.std.proofs.lemmas.Bool.{cond-true, lt-ltb}
use Rattle.slices.specs.declared.removal.NoSuchPlace.{NoSuchPlace}
use Rattle.slices.specs.Runs.{place_answer, without}
use Rattle.records.specs.Held.{place_from, taken_out}
use Rattle.records.proofs.Held.{found_out}

module _ {A : Type 0} (number_of : A → ℤ) (n : ℤ) (xs : List A) (at : ℕ) (found : place_from 0 number_of n xs ≡ Some at) where
  pub found_within : at < length xs
  found_within =
      let out = found_out number_of n 0 at xs found in
      omega (arith, out.1, out.2)

  pub taking_leaves : without xs at ≡ taken_out number_of n xs
  taking_leaves =
      let out = found_out number_of n 0 at xs found in
      let place : at ≡ out.0 = omega (arith, out.1) in
      cond-true _ (remove xs at) xs (lt-ltb at (length xs) found_within) ∙ ap (remove xs) place ∙ sym out.3

  pub not_refused : (e : NoSuchPlace) → Err e ≡ place_answer xs at → ⊥
  not_refused e is =
      let both : Err e ≡ Ok (tt {0}) = is ∙ cond-true _ (Ok (tt {0})) (Err (record {})) (lt-ltb at (length xs) found_within) in
      let z : ◌≡◌ {A = ℕ} 0 1 = cc in omega arith
