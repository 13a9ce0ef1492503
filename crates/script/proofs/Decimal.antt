-- A number as it is written, read again.
use Rattle.std.proofs.Common.{◌≡◌, ℕ, suc, ◌+◌, ◌-◌, ◌*◌, ◌/◌, ◌%◌, ◌^◌, ◌<◌, ◌≤◌, Bool, true, false, cond, eqb, leb, List, [], ◌∷◌, ◌++◌, length, ℤ, pos, negsuc, neg_ℤ, Some, None, decimal, refl, ap, ◌∙◌, mod-lt, div-add-mod', arith, lit<}
use lib.Signed.{mag}
use Rattle.std.proofs.lemmas.Fmt.{decimal_by_steps, decimal_nonempty, length_signed_le}
use Rattle.std.proofs.lemmas.List.{append_assoc}
use Rattle.std.proofs.lemmas.Bool.{leb-true, and_parts, cond-true}
use Rattle.std.proofs.lemmas.Bool.Decides.{nat_tests}
use Rattle.std.specs.Option.{option_map}
use Rattle.std.specs.Fmt.{signed_decimal}
use Rattle.records.specs.Range.{kept_by}
use Rattle.script.specs.Number.{and_then, digits_after, is_digit, is_number, natural_of, number_of, signed_of}
use Rattle.script.specs.Words.{before_first}
use Rattle.script.proofs.Magnitude.{digit_in}
use Rattle.script.proofs.Pieces.{cut, cut_plain, onto, onto_push}

digits_push : (value m c : ℕ) (ds : List ℕ) → is_digit c ≡ true → digits_after value ds ≡ Some m → digits_after value (ds ++ c ∷ []) ≡ Some (10 * m + (c - 48))
digits_push value m c [] digit e = ap (λ b. cond b (Some (10 * value + (c - 48))) None) digit ∙ ap (λ o. and_then o (λ v. Some (10 * v + (c - 48)))) e
digits_push value m c (d ∷ ds) digit e = go (is_digit d) e (digits_push (10 * value + (d - 48)) m c ds digit)
  where
    go : (b : Bool) → cond b (digits_after (10 * value + (d - 48)) ds) None ≡ Some m → (digits_after (10 * value + (d - 48)) ds ≡ Some m → digits_after (10 * value + (d - 48)) (ds ++ c ∷ []) ≡ Some (10 * m + (c - 48))) → cond b (digits_after (10 * value + (d - 48)) (ds ++ c ∷ [])) None ≡ Some (10 * m + (c - 48))
    go true h later = later h
    go false h later = absurd (grind arith)

natural_push : (m c : ℕ) (ds : List ℕ) → is_digit c ≡ true → natural_of ds ≡ Some m → natural_of (ds ++ c ∷ []) ≡ Some (10 * m + (c - 48))
natural_push m c [] digit e = absurd (grind arith)
natural_push m c (d ∷ ds) digit e = digits_push 0 m c (d ∷ ds) digit e

natural_one : (n : ℕ) → n < 10 → natural_of ((48 + n) ∷ []) ≡ Some n
natural_one n h =
    ap (λ b. cond b (Some (10 * 0 + (48 + n - 48))) None) (digit_in (48 + n) (omega arith) (omega arith)) ∙ ap Some (omega arith)

natural_more : (n : ℕ) (ds : List ℕ) → 10 ≤ n → natural_of ds ≡ Some (n / 10) → natural_of (ds ++ ((48 + n % 10) ∷ [])) ≡ Some n
natural_more n ds h e =
    let small : n % 10 < 10 = mod-lt n {m = 10} (lit< tt) in
    natural_push (n / 10) (48 + n % 10) ds (digit_in (48 + n % 10) (omega arith) (omega arith)) e
    ∙ ap Some (omega (arith, div-add-mod' n 10))

pub natural_decimal : (n : ℕ) → n < 2 ^ 64 → natural_of (decimal n) ≡ Some n
natural_decimal = decimal_by_steps (λ n ds. natural_of ds ≡ Some n) natural_one natural_more

-- Digits stand in one word.
digit_plain : (c : ℕ) (rest : List ℕ) → 48 ≤ c → cut (c ∷ rest) ≡ before_first c (cut rest)
digit_plain c rest h = cut_plain c rest (grind (arith, nat_tests)) (grind (arith, nat_tests))

pub cut_decimal : (n : ℕ) → n < 2 ^ 64 → (rest : List ℕ) → cut (decimal n ++ rest) ≡ onto (decimal n) (cut rest)
cut_decimal =
    decimal_by_steps (λ n ds. (rest : List ℕ) → cut (ds ++ rest) ≡ onto ds (cut rest))
    (λ n h rest. digit_plain (48 + n) rest (omega arith))
    (λ n ds h before rest.
    ap cut (append_assoc ds ((48 + n % 10) ∷ []) rest)
    ∙ (before ((48 + n % 10) ∷ rest)
    ∙ (ap (onto ds) (digit_plain (48 + n % 10) rest (omega arith)) ∙ onto_push ds (48 + n % 10) (cut rest))))

-- Digits begin with no sign.
not_minus : (c : ℕ) → is_digit c ≡ true → eqb c 45 ≡ false
not_minus c h = grind (arith, nat_tests)

plain_signed : (ds : List ℕ) (n : ℕ) → natural_of ds ≡ Some n → signed_of ds ≡ Some (pos n)
plain_signed [] n e = absurd (grind arith)
plain_signed (c ∷ cs) n e = go (is_digit c) refl e
  where
    go : (b : Bool) → is_digit c ≡ b → cond b (digits_after (10 * 0 + (c - 48)) cs) None ≡ Some n → signed_of (c ∷ cs) ≡ Some (pos n)
    go true d h = ap (λ t. cond t (option_map (λ m. neg_ℤ (pos m)) (natural_of cs)) (option_map pos (natural_of (c ∷ cs)))) (not_minus c d) ∙ ap (option_map pos) e
    go false d h = absurd (grind arith)

-- Every number is written by few bytes, as one word that says it.
positive_bound : (n : ℕ) → is_number (pos n) ≡ true → n ≤ 9223372036854775807
positive_bound n h = leb-true n 9223372036854775807 h

negative_bound : (n : ℕ) → is_number (negsuc n) ≡ true → n ≤ 9223372036854775807
negative_bound n h = leb-true n 9223372036854775807 (and_parts (leb n 9223372036854775807) true h).0

pub number_signed : (z : ℤ) → is_number z ≡ true → number_of (signed_decimal z) ≡ Some z
number_signed (pos n) h =
    let bound = positive_bound n h in
    ap (λ o. and_then o (kept_by is_number)) (plain_signed (decimal n) n (natural_decimal n (omega arith)))
    ∙ cond-true (is_number (pos n)) (Some (pos n)) None h
number_signed (negsuc n) h =
    let bound = negative_bound n h in
    ap (λ o. and_then (option_map (λ m. neg_ℤ (pos m)) o) (kept_by is_number)) (natural_decimal (suc n) (omega arith))
    ∙ cond-true (is_number (negsuc n)) (Some (negsuc n)) None h

pub cut_signed : (z : ℤ) → is_number z ≡ true → (rest : List ℕ) → cut (signed_decimal z ++ rest) ≡ onto (signed_decimal z) (cut rest)
cut_signed (pos n) h rest = let bound = positive_bound n h in cut_decimal n (omega arith) rest
cut_signed (negsuc n) h rest = let bound = negative_bound n h in ap (before_first 45) (cut_decimal (suc n) (omega arith) rest)

mag_bound : (z : ℤ) → is_number z ≡ true → mag z ≤ 9223372036854775807
mag_bound (pos n) h = positive_bound n h
mag_bound (negsuc n) h = negative_bound n h

pub signed_short : (z : ℤ) → is_number z ≡ true → length (signed_decimal z) ≤ 20
signed_short z h = let bound = mag_bound z h in length_signed_le 19 z (omega arith) (omega arith)

pub signed_some : (z : ℤ) → is_number z ≡ true → 0 < length (signed_decimal z)
signed_some (pos n) h = let bound = positive_bound n h in decimal_nonempty n (omega arith)
signed_some (negsuc n) h = omega arith
