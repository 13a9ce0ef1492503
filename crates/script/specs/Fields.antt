-- Fields of a command, read from its words in order.
use Rattle.std.specs.Prelude.{ℕ, zero, suc, cond, List, [], ◌∷◌, is_some, ℤ, Some, None, Option}
use Rattle.std.specs.Option.{option_map}
use Rattle.records.specs.declared.raw.Point.{Point}
use Rattle.records.specs.declared.raw.Rectangle.{Rectangle}
use Rattle.script.specs.Number.{and_then, number_of}

-- The number that the first word says, and the words after it.
abbrev pub first_number : List (List ℕ) → Option (ℤ × List (List ℕ))
first_number [] = None
first_number (word ∷ rest) = option_map (λ z. (z, rest)) (number_of word)

-- The words after as many numbers, or after the first word that is no number.
abbrev pub after_numbers : ℕ → List (List ℕ) → List (List ℕ)
after_numbers zero words = words
after_numbers (suc n) [] = []
after_numbers (suc n) (word ∷ rest) = cond (is_some (number_of word)) (after_numbers n rest) rest

-- A command that goes on with a number.
abbrev pub with_number : {X : Type 0} → List (List ℕ) → (ℤ → List (List ℕ) → Option X) → Option X
with_number words step = and_then (first_number words) (λ p. step p.0 p.1)

-- X Y, and the words after them
abbrev pub first_point : List (List ℕ) → Option (Point × List (List ℕ))
first_point words =
    with_number words (λ x after-x.
    with_number after-x (λ y rest.
    Some (record { x = x; y = y }, rest)))

-- A B C D, and the words after them
abbrev pub first_rectangle : List (List ℕ) → Option (Rectangle × List (List ℕ))
first_rectangle words =
    with_number words (λ a after-a.
    with_number after-a (λ b after-b.
    with_number after-b (λ c after-c.
    with_number after-c (λ d rest.
    Some (record { west = a; east = b; south = c; north = d }, rest)))))

-- A command that ends here.
abbrev pub at_end : {X : Type 0} → List (List ℕ) → X → Option X
at_end [] x = Some x
at_end (word ∷ rest) x = None
