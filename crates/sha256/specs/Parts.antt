-- A digest in the making: what its state says of the bytes taken so far.
use Rattle.std.specs.Prelude.{◌≡◌, ℕ, ◌*◌, ◌/◌, ◌%◌, List, length, take, drop}
use Rattle.sha256.specs.Constants.{H⁰}
use Rattle.sha256.specs.Standard.{after}
use Rattle.sha256.specs.declared.state.Sha256.{Sha256}

-- The state s has taken exactly these bytes: it counts them, has the hash value after their whole blocks, and holds the
-- bytes past those.
pub record Taken (s : Sha256) (bytes : List ℕ) : Type 0 where
  pub counted : s.size ≡ length bytes
  pub absorbed : s.words ≡ after H⁰ bytes (length bytes / 64)
  pub held : take (length bytes % 64) s.pending ≡ drop (64 * (length bytes / 64)) bytes
