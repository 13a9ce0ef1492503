-- What is written digit by digit, and read back.
use Rattle.std.proofs.Common.{◌≡◌, ℕ, ◌+◌, ◌*◌, ◌/◌, ◌%◌, ◌<◌, ◌≤◌, true, cond, List, [], ◌∷◌, ◌++◌, length, get_or, take, is_ok, is_err, Some, Ok, Err, Result, sym, refl, ap, ◌∙◌, arith}
use Rattle.std.proofs.lemmas.List.{append_assoc, flat_map_more, take_all, take_more}
use Rattle.std.proofs.lemmas.Bool.{false≢true}
use Rattle.std.proofs.lemmas.Bool.Decides.{nat_tests}
use Rattle.std.specs.Option.{option_map, option_zip}
use Rattle.std.specs.List.{flat_map, AllByRecursion}
use Rattle.hex_text.specs.Hex.{bytes_of, digit_value, digits_of, hex_digit, hex_of, pair_value, pairs_of}
use Rattle.hex_text.proofs.Pairs.{before}

digit_back : (v : ℕ) → v < 16 → digit_value (hex_digit v) ≡ Some v
digit_back v h = grind (arith, nat_tests)

pair_back : (b : ℕ) → b < 256 → pair_value (hex_digit (b / 16)) (hex_digit (b % 16)) ≡ Some b
pair_back b h =
    let e : 16 * (b / 16) + b % 16 ≡ b = omega arith in
    ap (λ o. option_map (λ p. 16 * p.0 + p.1) (option_zip o (digit_value (hex_digit (b % 16))))) (digit_back (b / 16) (omega arith))
    ∙ (ap (λ o. option_map (λ p. 16 * p.0 + p.1) (option_zip (Some (b / 16)) o)) (digit_back (b % 16) (omega arith))
    ∙ ap Some e)

pairs_back : (bs : List ℕ) → AllByRecursion (λ b. b < 256) bs → pairs_of (flat_map digits_of bs) ≡ Some bs
pairs_back [] h = refl
pairs_back (b ∷ bs) h =
    ap (λ v. before v (pairs_of (flat_map digits_of bs))) (pair_back b h.0)
    ∙ ap (before (Some b)) (pairs_back bs h.1)

pub written_reads_back : (bs : List ℕ) → AllByRecursion (λ b. b < 256) bs → bytes_of (hex_of bs) ≡ Some bs
written_reads_back [] h = refl
written_reads_back (b ∷ bs) h = pairs_back (b ∷ bs) h

pub length_written : (bs : List ℕ) → length (flat_map digits_of bs) ≡ 2 * length bs
length_written [] = refl
length_written (b ∷ bs) = let e = length_written bs in omega arith

pub hex_some : (bs : List ℕ) → 0 < length bs → hex_of bs ≡ flat_map digits_of bs
hex_some [] h = absurd (omega arith)
hex_some (b ∷ bs) h = refl

-- one byte more
pub digits_more : (before : List ℕ) (bs : List ℕ) (i : ℕ) → i < length bs → (before ++ flat_map digits_of (take i bs)) ++ digits_of (get_or bs i 0) ≡ before ++ flat_map digits_of (take (i + 1) bs)
digits_more before bs i h =
    flat_map_more digits_of before (take i bs) (get_or bs i 0) ∙ ap (λ xs. before ++ flat_map digits_of xs) (sym (take_more bs i 0 h))

pub digits_all : (before : List ℕ) (bs : List ℕ) (i : ℕ) → 0 < length bs → length bs ≤ i → before ++ flat_map digits_of (take i bs) ≡ before ++ hex_of bs
digits_all before bs i some h =
    ap (λ xs. before ++ flat_map digits_of xs) (take_all i bs h) ∙ ap (λ xs. before ++ xs) (sym (hex_some bs some))

pub length_hex : (bs : List ℕ) → 0 < length bs → length (hex_of bs) ≡ 2 * length bs
length_hex bs some = ap length (hex_some bs some) ∙ length_written bs

pub two_digits : (xs ys zs : List ℕ) (byte high low : ℕ) → high ≡ hex_digit (byte / 16) → low ≡ hex_digit (byte % 16) → ys ≡ xs ++ high ∷ [] → zs ≡ ys ++ low ∷ [] → zs ≡ xs ++ digits_of byte
two_digits xs ys zs byte high low h l first second =
    second
    ∙ (ap (λ ws. ws ++ low ∷ []) first
    ∙ (append_assoc xs (high ∷ []) (low ∷ [])
    ∙ (ap (λ n. xs ++ (n ∷ low ∷ [])) h ∙ ap (λ n. xs ++ (hex_digit (byte / 16) ∷ n ∷ [])) l)))

-- where memory failed
pub left_alone : {T E : Type 0} (was after bytes : List ℕ) (r : Result T E) → is_err r ≡ true → after ≡ was → after ≡ cond (is_ok r) (was ++ bytes) was
left_alone was after bytes (Ok x) fails same = absurd (false≢true fails)
left_alone was after bytes (Err x) fails same = same
