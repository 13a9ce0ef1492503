-- A digest in the making: what its state says of the bytes taken so far.
use Rattle.std.specs.Prelude.{◌≡◌, ℕ, ◌-◌, ◌*◌, ◌/◌, ◌%◌, List, length, take, drop}
use Rattle.blake2s.specs.Standard.{after, earlier}
use Rattle.blake2s.specs.declared.state.Blake2s.{Blake2s}

-- The state s has taken exactly these bytes: it counts them, is that after their blocks before the last, and holds the
-- bytes past those, up to a whole block.
pub record Taken (s : Blake2s) (bytes : List ℕ) : Type 0 where
  pub counted : s.size ≡ length bytes
  pub absorbed : s.words ≡ after bytes (earlier bytes)
  pub held : take (length bytes - 64 * earlier bytes) s.pending ≡ drop (64 * earlier bytes) bytes

-- The same where the bytes are whole blocks and more are sure to come: the last of the blocks is absorbed too.
pub record Flushed (s : Blake2s) (bytes : List ℕ) : Type 0 where
  pub counted : s.size ≡ length bytes
  pub whole : length bytes % 64 ≡ 0
  pub absorbed : s.words ≡ after bytes (length bytes / 64)
