-- Numbers read one after another.
use Rattle.std.proofs.Common.{◌≡◌, ℕ, suc, cond, List, [], ◌∷◌, drop, is_some, ℤ, Some, None, Option, refl, sym, ap, ◌∙◌, arith}
use Rattle.std.specs.Option.{option_map}
use Rattle.script.specs.Number.{number_of}
use Rattle.script.specs.Fields.{after_numbers, first_number}

abbrev left_in : Option (ℤ × List (List ℕ)) → List (List ℕ)
left_in None = []
left_in (Some p) = p.1

more_by : (n : ℕ) (z : ℤ) (now rest : List (List ℕ)) (o : Option ℤ) → ◌≡◌ {A = Option (ℤ × List (List ℕ))} (Some (z, now)) (option_map (λ y. (y, rest)) o) → cond (is_some o) (after_numbers n rest) rest ≡ after_numbers n now
more_by n z now rest (Some y) e =
    ap (after_numbers n) (sym (ap left_in e))
more_by n z now rest None e =
    let both : ◌≡◌ {A = ℕ} 0 1 = cc in absurd (omega arith)

-- One number is read, and others are to come.
pub number_more : (n : ℕ) (z : ℤ) (now words : List (List ℕ)) → Some (z, now) ≡ first_number words → after_numbers (suc n) words ≡ after_numbers n now
number_more n z now [] e =
    let both : ◌≡◌ {A = ℕ} 0 1 = cc in absurd (omega arith)
number_more n z now (word ∷ rest) e = more_by n z now rest (number_of word) e

none_by : (n : ℕ) (rest : List (List ℕ)) (o : Option ℤ) → ◌≡◌ {A = Option (ℤ × List (List ℕ))} None (option_map (λ y. (y, rest)) o) → rest ≡ cond (is_some o) (after_numbers n rest) rest
none_by n rest (Some y) e =
    let both : ◌≡◌ {A = ℕ} 0 1 = cc in absurd (omega arith)
none_by n rest None e = refl

-- A word that is no number is the last one read.
pub number_none : (n : ℕ) (now words : List (List ℕ)) → None ≡ first_number words → now ≡ drop 1 words → now ≡ after_numbers (suc n) words
number_none n now [] e is = is
number_none n now (word ∷ rest) e is = is ∙ none_by n rest (number_of word) e
