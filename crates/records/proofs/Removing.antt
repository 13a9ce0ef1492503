-- A removal from a register, by the records that it holds: raw turns an element into its record.
use Rattle.std.proofs.Common.{◌≡◌, Bool, cond, List, map, ℤ, Some, None, Option, refl, ap, ◌∙◌}
use Rattle.refusal.specs.declared.Refusal.{Refusal}
use Rattle.refusal.specs.declared.Refusal.TheVariants.{NumberNotHeld}
use Rattle.records.specs.Held.{taken_out, remove_refusal}
use Rattle.records.specs.Outcome.{unless_refused}
use Rattle.records.proofs.Held.{holds_raw, taken_out_lem}

unless_read : {A R : Type 0} (raw : A → R) (refusal : Option Refusal) (new old : List A) → map raw (unless_refused refusal new old) ≡ unless_refused refusal (map raw new) (map raw old)
unless_read raw None new old = refl
unless_read raw (Some k) new old = refl

module _ {A R : Type 0} (raw : A → R) (number_of : R → ℤ) (n : ℤ) (xs : List A) where
  abbrev by_element : A → ℤ
  by_element a = number_of (raw a)

  pub refusal_read : remove_refusal by_element xs n ≡ remove_refusal number_of (map raw xs) n
  refusal_read = ap (λ (b : Bool). cond b None (Some NumberNotHeld)) (holds_raw raw number_of n xs)

  pub removal_read : (after : List A) → after ≡ unless_refused (remove_refusal by_element xs n) (taken_out by_element n xs) xs
      → map raw after ≡ unless_refused (remove_refusal number_of (map raw xs) n) (taken_out number_of n (map raw xs)) (map raw xs)
  removal_read after is =
      ap (map raw) is
      ∙ unless_read raw (remove_refusal by_element xs n) (taken_out by_element n xs) xs
      ∙ ap (λ o. unless_refused o (map raw (taken_out by_element n xs)) (map raw xs)) refusal_read
      ∙ ap (λ l. unless_refused (remove_refusal number_of (map raw xs) n) l (map raw xs)) (taken_out_lem raw number_of n xs)
