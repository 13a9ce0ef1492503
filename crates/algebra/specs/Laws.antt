-- The laws of an ordered commutative ring, at the integers, and the size of a sum and of a product.
-- Assumes nothing.
use Rattle.std.specs.Prelude.{◌≡◌, ◌⊎◌, ◌+◌, ◌*◌, ◌≤◌, ℤ, pos, ◌+ℤ◌, ◌-ℤ◌, ◌*ℤ◌, neg_ℤ, nat_abs, ◌<ℤ◌, ◌≤ℤ◌}

pub record RingLaws : Type 0 where
  pub sum_commutes : (a b : ℤ) → a +ℤ b ≡ b +ℤ a
  pub sum_associates : (a b c : ℤ) → (a +ℤ b) +ℤ c ≡ a +ℤ (b +ℤ c)
  pub sum_zero : (a : ℤ) → a +ℤ pos 0 ≡ a
  pub sum_negated : (a : ℤ) → a +ℤ neg_ℤ a ≡ pos 0
  pub difference : (a b : ℤ) → a -ℤ b ≡ a +ℤ neg_ℤ b
  pub product_commutes : (a b : ℤ) → a *ℤ b ≡ b *ℤ a
  pub product_associates : (a b c : ℤ) → (a *ℤ b) *ℤ c ≡ a *ℤ (b *ℤ c)
  pub product_one : (a : ℤ) → a *ℤ pos 1 ≡ a
  pub product_distributes : (a b c : ℤ) → a *ℤ (b +ℤ c) ≡ a *ℤ b +ℤ a *ℤ c

pub record OrderLaws : Type 0 where
  pub at_most_transitive : (a b c : ℤ) → a ≤ℤ b → b ≤ℤ c → a ≤ℤ c
  pub at_most_antisymmetric : (a b : ℤ) → a ≤ℤ b → b ≤ℤ a → a ≡ b
  pub one_of_three : (a b : ℤ) → (a <ℤ b) ⊎ ((a ≡ b) ⊎ (b <ℤ a))
  pub sum_keeps_order : (a b c d : ℤ) → a ≤ℤ b → c ≤ℤ d → (a +ℤ c) ≤ℤ (b +ℤ d)
  pub product_of_positive : (a b : ℤ) → pos 0 <ℤ a → pos 0 <ℤ b → pos 0 <ℤ (a *ℤ b)
  pub positive_factor_cancels : (a b c : ℤ) → pos 0 <ℤ c → (c *ℤ a) ≤ℤ (c *ℤ b) → a ≤ℤ b
  pub size_of_product : (a b : ℤ) → nat_abs (a *ℤ b) ≡ nat_abs a * nat_abs b
  pub size_of_sum : (a b : ℤ) → nat_abs (a +ℤ b) ≤ nat_abs a + nat_abs b
