-- The table of commands that carry bytes: which words make up each, and what it says.
use Rattle.std.specs.Prelude.{ℕ, cond, List, [], ◌∷◌, length, is_some, Some, None, codes, Option, nat_lt}
use Rattle.std.specs.Str.{bytes_eq}
use Rattle.hex_text.specs.Hex.{bytes_of}
use Rattle.script.specs.Number.{and_then}
use Rattle.script.specs.Words.{words_of}
use Rattle.script.specs.Fields.{at_end}
use Rattle.script.specs.Command.{hash_named}
use Rattle.byte_commands.specs.Asked.{Asked, digest}

-- The first word, if it is hex, and the words after it.
abbrev pub first_hex : List (List ℕ) → Option (List ℕ × List (List ℕ))
first_hex [] = None
first_hex (word ∷ rest) = cond (is_some (bytes_of word)) (Some (word, rest)) None

-- A command that goes on with hex.
abbrev pub with_hex : {X : Type 0} → List (List ℕ) → (List ℕ → List (List ℕ) → Option X) → Option X
with_hex words step = and_then (first_hex words) (λ p. step p.0 p.1)

-- digest HASH HEX
abbrev pub read_digest : List (List ℕ) → Option Asked
read_digest [] = None
read_digest (name ∷ rest) =
    and_then (hash_named name) (λ hash. with_hex rest (λ message after. at_end after (digest hash message)))

abbrev pub read_byte_words : List (List ℕ) → Option Asked
read_byte_words [] = None
read_byte_words (verb ∷ rest) = cond (bytes_eq verb (codes "digest")) (read_digest rest) None

-- Lines of up to 200,000 bytes are read.
abbrev pub read_byte_command : List ℕ → Option Asked
read_byte_command line = cond (nat_lt 200000 (length line)) None (read_byte_words (words_of line))
