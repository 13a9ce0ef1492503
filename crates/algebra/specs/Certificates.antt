-- Certificates: why an order or an equation between polynomial expressions follows from facts that are given.
-- A certificate is built from the given facts, natural numbers and squares, by sums and products. It stands for an expression,
-- and the way that it is built shows the sign of that expression's value.
-- Assumes nothing.
use Rattle.std.specs.Prelude.{ℕ, ◌≡◌, Bool, true, false, ◌&&◌, ◌||◌, List, [], ◌∷◌, ltb, get_or, ℤ, pos, ◌<ℤ◌, ◌≤ℤ◌}
use Rattle.algebra.specs.Expressions.{Expression, number, ◌⊕◌, ◌⊖◌, ◌⊗◌, value}
use Rattle.algebra.specs.Forms.{same_form}

infix 5 ◌≼◌ ◌≺◌ ◌≈◌
pub data Fact : Type 0 where
  ◌≼◌ : Expression → Expression → Fact
  ◌≺◌ : Expression → Expression → Fact
  ◌≈◌ : Expression → Expression → Fact

-- what a fact says where the unknowns are these integers
abbrev pub Holds : List ℤ → Fact → Type 0
Holds ρ (a ≼ b) = value ρ a ≤ℤ value ρ b
Holds ρ (a ≺ b) = value ρ a <ℤ value ρ b
Holds ρ (a ≈ b) = value ρ a ≡ value ρ b

abbrev pub AllHold : List ℤ → List Fact → Type 0
AllHold ρ [] = Unit {0}
AllHold ρ (f ∷ fs) = Holds ρ f × AllHold ρ fs

infixl 6 ◌⊞◌
infixl 7 ◌⊠◌
pub data Certificate : Type 0 where
  -- the right side of a given fact less its left side
  given : ℕ → Certificate
  natural : ℕ → Certificate
  square : Expression → Certificate
  ◌⊞◌ : Certificate → Certificate → Certificate
  ◌⊠◌ : Certificate → Certificate → Certificate
  -- one less than something positive
  lowered : Certificate → Certificate
  -- anything, times the right side of a given equation less its left side
  multiple : Expression → ℕ → Certificate

-- a place past the last given fact stands for 0 = 0
abbrev pub fact_at : List Fact → ℕ → Fact
fact_at known i = get_or known i (number (pos 0) ≈ number (pos 0))

abbrev pub gap : Fact → Expression
gap (a ≼ b) = b ⊖ a
gap (a ≺ b) = b ⊖ a
gap (a ≈ b) = b ⊖ a

abbrev pub is_strict : Fact → Bool
is_strict (a ≼ b) = false
is_strict (a ≺ b) = true
is_strict (a ≈ b) = false

abbrev pub is_equation : Fact → Bool
is_equation (a ≼ b) = false
is_equation (a ≺ b) = false
is_equation (a ≈ b) = true

-- the expression that a certificate stands for
abbrev pub stated : List Fact → Certificate → Expression
stated known (given i) = gap (fact_at known i)
stated known (natural n) = number (pos n)
stated known (square a) = a ⊗ a
stated known (x ⊞ y) = stated known x ⊕ stated known y
stated known (x ⊠ y) = stated known x ⊗ stated known y
stated known (lowered x) = stated known x ⊖ number (pos 1)
stated known (multiple a i) = a ⊗ gap (fact_at known i)

abbrev mutual
  pub is_above_zero : List Fact → Certificate → Bool
  is_above_zero known (given i) = is_strict (fact_at known i)
  is_above_zero known (natural n) = ltb 0 n
  is_above_zero known (square a) = false
  is_above_zero known (x ⊞ y) = (is_above_zero known x && is_at_least_zero known y) || (is_at_least_zero known x && is_above_zero known y)
  is_above_zero known (x ⊠ y) = is_above_zero known x && is_above_zero known y
  is_above_zero known (lowered x) = false
  is_above_zero known (multiple a i) = false

  pub is_at_least_zero : List Fact → Certificate → Bool
  is_at_least_zero known (given i) = true
  is_at_least_zero known (natural n) = true
  is_at_least_zero known (square a) = true
  is_at_least_zero known (x ⊞ y) = is_at_least_zero known x && is_at_least_zero known y
  is_at_least_zero known (x ⊠ y) = is_at_least_zero known x && is_at_least_zero known y
  is_at_least_zero known (lowered x) = is_above_zero known x
  is_at_least_zero known (multiple a i) = is_equation (fact_at known i)

abbrev pub is_zero_sum : List Fact → Certificate → Bool
is_zero_sum known (given i) = is_equation (fact_at known i)
is_zero_sum known (natural n) = false
is_zero_sum known (square a) = false
is_zero_sum known (x ⊞ y) = is_zero_sum known x && is_zero_sum known y
is_zero_sum known (x ⊠ y) = false
is_zero_sum known (lowered x) = false
is_zero_sum known (multiple a i) = is_equation (fact_at known i)

-- what the certificate must show for a fact
abbrev pub suits : List Fact → Certificate → Fact → Bool
suits known c (a ≼ b) = is_at_least_zero known c
suits known c (a ≺ b) = is_above_zero known c
suits known c (a ≈ b) = is_zero_sum known c

-- The certificate `c` shows a fact: a positive multiple of the right side less the left side is what `c` stands for, and `c` has the sign that the fact wants.
-- The positive factor is certified too; most often it is `natural 1`.
abbrev pub proves : List Fact → (factor c : Certificate) → Fact → Bool
proves known factor c f = is_above_zero known factor && suits known c f && same_form (stated known factor ⊗ gap f) (stated known c)
