-- Bytes as hex text: two digits a byte, the higher one first.
-- It is read in either case and printed in lower case. No bytes are written '-'.
use Rattle.std.specs.Prelude.{ℕ, ◌+◌, ◌-◌, ◌*◌, ◌/◌, ◌%◌, cond, ◌&&◌, List, [], ◌∷◌, Some, None, Option, ◌==◌, nat_le, nat_lt}
use Rattle.std.specs.Option.{option_map, unwrap_or, option_zip}
use Rattle.std.specs.List.{flat_map}

-- The digit of a value below 16: from 0 to 9, then from a to f.
abbrev pub hex_digit : ℕ → ℕ
hex_digit value = cond (nat_lt value 10) (48 + value) (87 + value)

-- The value of a digit: from 0 to 9, from a to f, from A to F.
abbrev pub digit_value : ℕ → Option ℕ
digit_value c =
    cond (nat_le 48 c && nat_le c 57) (Some (c - 48))
    (cond (nat_le 97 c && nat_le c 102) (Some (c - 87))
    (cond (nat_le 65 c && nat_le c 70) (Some (c - 55)) None))

abbrev pub pair_value : ℕ → ℕ → Option ℕ
pair_value high low = option_map (λ p. 16 * p.0 + p.1) (option_zip (digit_value high) (digit_value low))

-- The bytes of pairs of digits. An odd number of digits is no hex.
abbrev pub pairs_of : List ℕ → Option (List ℕ)
pairs_of [] = Some []
pairs_of (c ∷ []) = None
pairs_of (high ∷ low ∷ rest) = option_map (λ p. p.0 ∷ p.1) (option_zip (pair_value high low) (pairs_of rest))

-- The bytes of a word. The empty word is no hex.
abbrev pub bytes_of : List ℕ → Option (List ℕ)
bytes_of [] = None
bytes_of (c ∷ []) = cond (c == 45) (Some []) None
bytes_of (high ∷ low ∷ rest) = pairs_of (high ∷ low ∷ rest)

-- The bytes of a word that is hex, and none of any other.
abbrev pub bytes_in : List ℕ → List ℕ
bytes_in text = unwrap_or (bytes_of text) []

abbrev pub digits_of : ℕ → List ℕ
digits_of byte = hex_digit (byte / 16) ∷ hex_digit (byte % 16) ∷ []

abbrev pub hex_of : List ℕ → List ℕ
hex_of [] = 45 ∷ []
hex_of (byte ∷ bytes) = flat_map digits_of (byte ∷ bytes)
