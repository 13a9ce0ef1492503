-- The lines that answer them, without the line's end.
use Rattle.std.specs.Prelude.{ℕ, List, ◌++◌, codes}
use Rattle.hex_text.specs.Hex.{hex_of}

abbrev pub line_of_digest : List ℕ → List ℕ
line_of_digest bytes = codes "digest " ++ hex_of bytes
