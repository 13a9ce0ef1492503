-- A message that comes in parts: what a further part does to the state that takes them.
use Rattle.std.specs.Prelude.{◌≡◌, ℕ, ◌+◌, ◌<◌, ◌≤◌, List, ◌++◌, length, Result}
use Rattle.refusal.specs.declared.Refusal.{Refusal}
use Rattle.digest.specs.Hashing.{longest, if_fits}

-- The state t after a part is offered to the state s, and the answer r, where `size` counts the bytes that a state has
-- taken and `Taken` says which they are: the part is taken behind the bytes before it, or refused where they would be
-- more than a hash takes, and then nothing changes.
pub record Offered {State : Type 0} (size : State → ℕ) (Taken : State → List ℕ → Type 0) (s : State) (part : List ℕ) (r : Result (Unit {0}) Refusal) (t : State) : Type 0 where
  pub answer : r ≡ if_fits (size s + length part) tt
  pub taken : size s + length part ≤ longest → (bytes : List ℕ) → Taken s bytes → Taken t (bytes ++ part)
  pub unchanged : longest < size s + length part → t ≡ s
