-- What an answer says of the length of the bytes offered, and what a hash answers at a length.
use Rattle.std.proofs.Common.{◌≡◌, ℕ, ◌<◌, ◌≤◌, Bool, true, false, cond, leb, List, length, Ok, Err, Result, refl, arith}
use Rattle.std.proofs.lemmas.Bool.{leb-true, leb-false, le-leb, lt-leb, cond-true, cond-false}
use Rattle.refusal.specs.declared.Refusal.{Refusal}
use Rattle.refusal.specs.declared.Refusal.TheVariants.{MessageTooLong}
use Rattle.digest.specs.Hashing.{longest, hashed}

refused_by : (n : ℕ) (e : Refusal) (b : Bool) → leb n longest ≡ b → ◌≡◌ {A = Result (Unit {0}) Refusal} (Err e) (cond b (Ok tt) (Err MessageTooLong)) → (e ≡ MessageTooLong) × (longest < n)
refused_by n e true is answer = let none : ◌≡◌ {A = ℕ} 0 1 = cc in absurd (omega arith)
refused_by n e false is answer = (cc, leb-false n longest is)

pub refused : (n : ℕ) (e : Refusal) → ◌≡◌ {A = Result (Unit {0}) Refusal} (Err e) (cond (leb n longest) (Ok tt) (Err MessageTooLong)) → (e ≡ MessageTooLong) × (longest < n)
refused n e answer = refused_by n e (leb n longest) refl answer

accepted_by : (n : ℕ) (b : Bool) → leb n longest ≡ b → ◌≡◌ {A = Result (Unit {0}) Refusal} (Ok tt) (cond b (Ok tt) (Err MessageTooLong)) → n ≤ longest
accepted_by n true is answer = leb-true n longest is
accepted_by n false is answer = let none : ◌≡◌ {A = ℕ} 0 1 = cc in absurd (omega arith)

pub accepted : (n : ℕ) → ◌≡◌ {A = Result (Unit {0}) Refusal} (Ok tt) (cond (leb n longest) (Ok tt) (Err MessageTooLong)) → n ≤ longest
accepted n answer = accepted_by n (leb n longest) refl answer

pub hashed_long : (digest : List ℕ → List ℕ) (message : List ℕ) → longest < length message → hashed digest message ≡ Err MessageTooLong
hashed_long digest message long =
    cond-false (leb (length message) longest) (Ok (digest message)) (Err MessageTooLong) (lt-leb (length message) longest long)

pub hashed_fits : (digest : List ℕ → List ℕ) (message : List ℕ) → length message ≤ longest → hashed digest message ≡ Ok (digest message)
hashed_fits digest message fits =
    cond-true (leb (length message) longest) (Ok (digest message)) (Err MessageTooLong) (le-leb (length message) longest fits)
