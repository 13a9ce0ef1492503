-- Reading what was written gives the bytes back.
use Rattle.std.specs.Prelude.{◌≡◌, ℕ, ◌<◌, List, Some}
use Rattle.std.specs.List.{AllByRecursion}
use Rattle.hex_text.specs.Hex.{bytes_of, hex_of}

abbrev pub WrittenHexReadsBack : Type 0
WrittenHexReadsBack = (bytes : List ℕ) → AllByRecursion (λ byte. byte < 256) bytes → bytes_of (hex_of bytes) ≡ Some bytes
