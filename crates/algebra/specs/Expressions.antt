-- Polynomial expressions in unknowns that are named by their place in a list of integers.
-- Assumes nothing.
use Rattle.std.specs.Prelude.{ℕ, List, get_or, ℤ, pos, ◌+ℤ◌, ◌-ℤ◌, ◌*ℤ◌, neg_ℤ}

infixl 6 ◌⊕◌ ◌⊖◌
infixl 7 ◌⊗◌
pub data Expression : Type 0 where
  unknown : ℕ → Expression
  number : ℤ → Expression
  ◌⊕◌ : Expression → Expression → Expression
  ◌⊖◌ : Expression → Expression → Expression
  ◌⊗◌ : Expression → Expression → Expression
  minus : Expression → Expression

-- the value where the unknowns are these integers; an unknown past the list's end is 0
abbrev pub value : List ℤ → Expression → ℤ
value ρ (unknown i) = get_or ρ i (pos 0)
value ρ (number n) = n
value ρ (a ⊕ b) = value ρ a +ℤ value ρ b
value ρ (a ⊖ b) = value ρ a -ℤ value ρ b
value ρ (a ⊗ b) = value ρ a *ℤ value ρ b
value ρ (minus a) = neg_ℤ (value ρ a)
