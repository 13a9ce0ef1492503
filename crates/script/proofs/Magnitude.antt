-- Reading digits from the left: a step, an end at a byte that is none, and an end at a value too large.
use Rattle.std.proofs.Common.{◌≡◌, ℕ, ◌+◌, ◌-◌, ◌*◌, ◌/◌, ◌<◌, ◌≤◌, true, false, cond, ◌⊎◌, List, [], ◌∷◌, length, get_or, drop, Some, None, refl, ap, ◌∙◌, mod-lt, div-add-mod', arith, lit<}
use Rattle.std.proofs.lemmas.List.{at_drop_more, at_drop_all}
use Rattle.std.proofs.lemmas.Bool.{lt-leb, le-leb}
use Rattle.std.proofs.lemmas.Bool.Decides.{nat_tests}
use Rattle.script.specs.Number.{and_then, digits_after, is_digit, natural_of, up_to}

pub too_large : (limit value : ℕ) (cs : List ℕ) → limit < value → and_then (digits_after value cs) (up_to limit) ≡ None
too_large limit value [] h = rw (lt-leb value limit h)
too_large limit value (c ∷ cs) h =
    elim (is_digit c) as (λ b. and_then (cond b (digits_after (10 * value + (c - 48)) cs) None) (up_to limit) ≡ None)
    [ true ↦ too_large limit (10 * value + (c - 48)) cs (omega arith) | false ↦ refl ]

pub digit_in : (c : ℕ) → 48 ≤ c → c ≤ 57 → is_digit c ≡ true
digit_in c low high = rw (le-leb 48 c low, le-leb c 57 high)

pub digit_out : (c : ℕ) → (c < 48) ⊎ (57 < c) → is_digit c ≡ false
digit_out c out = grind (arith, nat_tests)

pub digits_start : (s : List ℕ) → 0 < length s → natural_of s ≡ digits_after 0 s
digits_start [] h = absurd (omega arith)
digits_start (c ∷ cs) h = refl

pub digits_more : (s : List ℕ) (value i : ℕ) → i < length s → 48 ≤ get_or s i 0 → get_or s i 0 ≤ 57 → digits_after value (drop i s) ≡ digits_after (10 * value + (get_or s i 0 - 48)) (drop (i + 1) s)
digits_more s value i h low high =
    at_drop_more (digits_after value) s i 0 h
    ∙ ap (λ b. cond b (digits_after (10 * value + (get_or s i 0 - 48)) (drop (i + 1) s)) None) (digit_in (get_or s i 0) low high)

pub digits_stop : (s : List ℕ) (value i : ℕ) → i < length s → (get_or s i 0 < 48) ⊎ (57 < get_or s i 0) → digits_after value (drop i s) ≡ None
digits_stop s value i h out =
    at_drop_more (digits_after value) s i 0 h
    ∙ ap (λ b. cond b (digits_after (10 * value + (get_or s i 0 - 48)) (drop (i + 1) s)) None) (digit_out (get_or s i 0) out)

pub digits_all : (s : List ℕ) (value i : ℕ) → length s ≤ i → digits_after value (drop i s) ≡ Some value
digits_all s value i h = at_drop_all (digits_after value) s i h

-- The test by which the code keeps a value from growing past the limit.
pub quotient_above : (limit value unit : ℕ) → (limit - unit) / 10 < value → limit < 10 * value + unit
quotient_above limit value unit h = omega (arith, div-add-mod' (limit - unit) 10, mod-lt (limit - unit) {m = 10} (lit< tt))

pub quotient_below : (limit value unit : ℕ) → unit ≤ limit → value ≤ (limit - unit) / 10 → 10 * value + unit ≤ limit
quotient_below limit value unit fits h = omega (arith, div-add-mod' (limit - unit) 10)
