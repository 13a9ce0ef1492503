-- What the checkers of this crate promise: whatever they accept is so, whatever integers the unknowns are. A worked case of each shows that they accept something.
-- Assumes nothing.
use Rattle.std.specs.Prelude.{◌≡◌, true, false, List, [], ◌∷◌, ℤ, pos}
use Rattle.algebra.specs.Expressions.{Expression, unknown, number, ◌⊕◌, ◌⊖◌, ◌⊗◌, value}
use Rattle.algebra.specs.Forms.{same_form}
use Rattle.algebra.specs.Certificates.{Fact, ◌≼◌, ◌≺◌, Holds, AllHold, Certificate, given, natural, square, ◌⊞◌, proves}

abbrev x : Expression
x = unknown 0

abbrev y : Expression
y = unknown 1

pub record IdentitiesHold : Type 0 where
  -- two expressions with one form have one value
  pub sound : (ρ : List ℤ) (a b : Expression) → same_form a b ≡ true → value ρ a ≡ value ρ b
  -- (x + y) (x - y) and x x - y y
  pub accepts : same_form ((x ⊕ y) ⊗ (x ⊖ y)) (x ⊗ x ⊖ y ⊗ y) ≡ true
  -- (x + y) (x + y) and x x + y y
  pub refuses : same_form ((x ⊕ y) ⊗ (x ⊕ y)) (x ⊗ x ⊕ y ⊗ y) ≡ false

pub record CertificatesHold : Type 0 where
  -- a fact that a certificate shows from given facts holds where these do
  pub sound : (ρ : List ℤ) (known : List Fact) (goal : Fact) (factor c : Certificate) → AllHold ρ known → proves known factor c goal ≡ true → Holds ρ goal
  -- 2 x y is at most x x + y y, since the difference is the square of x - y
  pub accepts : proves [] (natural 1) (square (x ⊖ y)) (number (pos 2) ⊗ x ⊗ y ≼ x ⊗ x ⊕ y ⊗ y) ≡ true
  -- where 0 is below x and y, x is below y if x x is below y y: (x + y) (y - x) is y y - x x
  pub divides : proves ((number (pos 0) ≺ x) ∷ (number (pos 0) ≺ y) ∷ (x ⊗ x ≺ y ⊗ y) ∷ []) (given 0 ⊞ given 1) (given 2) (x ≺ y) ≡ true
  -- the square of x - y does not show that 2 x y is below x x + y y
  pub refuses : proves [] (natural 1) (square (x ⊖ y)) (number (pos 2) ⊗ x ⊗ y ≺ x ⊗ x ⊕ y ⊗ y) ≡ false
