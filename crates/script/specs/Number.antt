-- What a word says as a number: an optional minus sign and one or more decimal digits.
use Rattle.std.specs.Prelude.{ℕ, ◌+◌, ◌-◌, ◌*◌, Bool, cond, ◌&&◌, List, [], ◌∷◌, ℤ, pos, negsuc, neg_ℤ, Some, None, Option, ◌==◌, nat_le}
use Rattle.std.specs.Option.{option_map}
use Rattle.records.specs.Range.{within, kept_by}

-- What a step makes of a value, if there is one.
abbrev pub and_then : {X Y : Type 0} → Option X → (X → Option Y) → Option Y
and_then None step = None
and_then (Some x) step = step x

-- The bytes from 0 to 9.
abbrev pub is_digit : ℕ → Bool
is_digit c = nat_le 48 c && nat_le c 57

-- The value of digits that follow those of the value so far.
abbrev pub digits_after : ℕ → List ℕ → Option ℕ
digits_after value [] = Some value
digits_after value (c ∷ cs) = cond (is_digit c) (digits_after (10 * value + (c - 48)) cs) None

-- One or more digits.
abbrev pub natural_of : List ℕ → Option ℕ
natural_of [] = None
natural_of (c ∷ cs) = digits_after 0 (c ∷ cs)

-- A value that is at most the limit, or none.
abbrev pub up_to : ℕ → ℕ → Option ℕ
up_to limit n = cond (nat_le n limit) (Some n) None

abbrev pub signed_of : List ℕ → Option ℤ
signed_of [] = None
signed_of (c ∷ cs) =
    cond (c == 45) (option_map (λ n. neg_ℤ (pos n)) (natural_of cs)) (option_map pos (natural_of (c ∷ cs)))

-- Numbers are those of a signed 64-bit integer.
abbrev pub is_number : ℤ → Bool
is_number = within (negsuc 9223372036854775807) (pos 9223372036854775807)

abbrev pub number_of : List ℕ → Option ℤ
number_of word = and_then (signed_of word) (kept_by is_number)
