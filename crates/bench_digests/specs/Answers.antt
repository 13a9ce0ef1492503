-- A hash's outcome for a caller in C: the digest in a place of his, and whether there is one.
use Rattle.std.specs.Prelude.{ℕ, Bool, true, false, List, Ok, Err, Result}
use Rattle.refusal.specs.declared.Refusal.{Refusal}

abbrev pub taken : Result (List ℕ) Refusal → Bool
taken (Ok _) = true
taken (Err _) = false

-- What the place holds then; without a digest, what it held.
abbrev pub written : Result (List ℕ) Refusal → List ℕ → List ℕ
written (Ok bytes) _ = bytes
written (Err _) before = before
