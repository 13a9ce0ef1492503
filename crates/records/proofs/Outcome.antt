-- What a call answers and leaves, once its refusal is known.
use Rattle.std.proofs.Common.{◌≡◌, ℕ, Bool, true, false, cond, List, ℤ, Some, None, Ok, Err, Option, sym, refl, ap, ◌∙◌, arith}
use Rattle.std.proofs.lemmas.Bool.{cond-true, cond-false}
use Rattle.refusal.specs.declared.Refusal.{Refusal}
use Rattle.refusal.specs.declared.Refusal.TheVariants.{NumberNotHeld}
use Rattle.records.specs.Held.{holds, remove_refusal}
use Rattle.records.specs.Outcome.{answered, unless_refused}

pub record Outcome {X R : Type 0} (refusal o : Option Refusal) (x : X) (after new old : R) : Type 0 where
  pub answer : answered o x ≡ answered refusal x
  pub left : after ≡ unless_refused refusal new old

pub outcome : {X R : Type 0} (refusal o : Option Refusal) (x : X) (after new old : R) → refusal ≡ o → after ≡ unless_refused o new old → Outcome refusal o x after new old
outcome refusal o x after new old e is =
    record { answer = ap (λ (q : Option Refusal). answered q x) (sym e); left = is ∙ ap (λ (q : Option Refusal). unless_refused q new old) (sym e) }

module _ {R : Type 0} (number_of : R → ℤ) (held : List R) (n : ℤ) where
  pub not_held : holds number_of n held ≡ false → remove_refusal number_of held n ≡ Some NumberNotHeld
  not_held e = cond-false _ None (Some NumberNotHeld) e

  pub is_held : holds number_of n held ≡ true → remove_refusal number_of held n ≡ None
  is_held e = cond-true _ None (Some NumberNotHeld) e

-- A chain of tests that refuses nothing has passed its first test, and the rest refuses nothing.
pub first_passed : (b : Bool) (k : Refusal) (rest : Option Refusal) → cond b (Some k) rest ≡ None → b ≡ false
first_passed true k rest e = cc
first_passed false k rest e = refl

pub then_passed : (b : Bool) (k : Refusal) (rest : Option Refusal) → cond b (Some k) rest ≡ None → rest ≡ None
then_passed true k rest e = absurd (let z : ◌≡◌ {A = ℕ} 0 1 = cc in omega arith)
then_passed false k rest e = e

-- What an answer tells of the refusal.
pub accepted : {X : Type 0} (o : Option Refusal) (x y : X) → Ok x ≡ answered o y → (o ≡ None) × (x ≡ y)
accepted None x y e = (refl, cc)
accepted (Some k) x y e = absurd (let z : ◌≡◌ {A = ℕ} 0 1 = cc in omega arith)

pub refused : {X : Type 0} (o : Option Refusal) (k : Refusal) (y : X) → Err k ≡ answered o y → o ≡ Some k
refused None k y e = absurd (let z : ◌≡◌ {A = ℕ} 0 1 = cc in omega arith)
refused (Some j) k y e = cc
