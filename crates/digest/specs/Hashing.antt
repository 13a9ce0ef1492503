-- The outcome of a hash on every message.
use Rattle.std.specs.Prelude.{ℕ, cond, List, length, Ok, Err, Result, nat_le}
use Rattle.refusal.specs.declared.Refusal.{Refusal}
use Rattle.refusal.specs.declared.Refusal.TheVariants.{MessageTooLong}

-- The longest message that a hash takes, in bytes.
abbrev pub longest : ℕ
longest = 65535

-- A value for messages of n bytes, if n is no more than that; otherwise the refusal.
abbrev pub if_fits : {A : Type 0} → ℕ → A → Result A Refusal
if_fits n value = cond (nat_le n longest) (Ok value) (Err MessageTooLong)

-- The digest of a message that is no longer than that; any other is refused.
abbrev pub hashed : (List ℕ → List ℕ) → List ℕ → Result (List ℕ) Refusal
hashed digest message = cond (nat_le (length message) longest) (Ok (digest message)) (Err MessageTooLong)
