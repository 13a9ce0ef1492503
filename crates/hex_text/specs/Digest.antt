-- The digest that a word says: hex of 32 bytes.
use Rattle.std.specs.Prelude.{ℕ, cond, List, length, Some, None, Option, ◌==◌}
use Rattle.hex_text.specs.Hex.{bytes_of}

abbrev pub if32 : Option (List ℕ) → Option (List ℕ)
if32 None = None
if32 (Some bytes) = cond (length bytes == 32) (Some bytes) None

abbrev pub digest_of : List ℕ → Option (List ℕ)
digest_of word = if32 (bytes_of word)
