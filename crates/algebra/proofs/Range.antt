-- How large a computed integer may be: bounds on `nat_abs`, that is |z| ≤ m, from bounds on the parts, and that a bounded number fits a signed width.
-- `Reads t z m` follows a computation as code does it, step by step: a goal's term t is the integer z, and |z| ≤ m.
-- For `reads_sum p q : Reads (s +ℤ t) (y +ℤ z) (m + n)` and its like the bound is computed with the numbers written; `reads_back` passes a value
-- through its bits once the bound is below the width's.
-- Assumes nothing.
use mathlib.Core.Path.{◌≡◌, refl, sym, ap, ap₂, ◌∙◌, subst}
use Prim.Native.Nat.{ℕ, zero, suc, ◌+◌, ◌*◌, ◌^◌, ◌<◌, ◌≤◌}
use native.Mathlib.Nat.{mul-le-mul, le_trans, add-le-add, le_of_eq}
use native.Mathlib.Omega.{arith}
use lib.IntN.{ℤ, pos, negsuc, ◌+ℤ◌, ◌-ℤ◌, ◌*ℤ◌, neg_ℤ, nat_abs}
use lib.Signed.{◌≤ℤ◌, nat_abs-le}
use mir.Syntax.{Width}
use mir.Val.{SFits, to_z, of_z, hbits}
use mir.ValLaws.{to_z-of_z}
use borrow.Author.Differences.{ints}

-- ---- the size of a result
pub nat_abs_negℤ : (a : ℤ) → nat_abs (neg_ℤ a) ≡ nat_abs a
nat_abs_negℤ (pos zero) = refl
nat_abs_negℤ (pos (suc n)) = refl
nat_abs_negℤ (negsuc n) = refl

pub nat_abs_*ℤ : (a b : ℤ) → nat_abs (a *ℤ b) ≡ nat_abs a * nat_abs b
nat_abs_*ℤ (pos a) (pos b) = refl
nat_abs_*ℤ (pos a) (negsuc b) = nat_abs_negℤ (pos (a * suc b))
nat_abs_*ℤ (negsuc a) (pos b) = nat_abs_negℤ (pos (suc a * b))
nat_abs_*ℤ (negsuc a) (negsuc b) = refl

pub nat_abs_+ℤ : (a b : ℤ) → nat_abs (a +ℤ b) ≤ nat_abs a + nat_abs b
nat_abs_+ℤ a b = omega (arith, ints)

pub nat_abs_-ℤ : (a b : ℤ) → nat_abs (a -ℤ b) ≤ nat_abs a + nat_abs b
nat_abs_-ℤ a b = omega (arith, ints)

-- ---- bounds of results from bounds of parts
pub range_sum : {m n : ℕ} (a b : ℤ) → nat_abs a ≤ m → nat_abs b ≤ n → nat_abs (a +ℤ b) ≤ m + n
range_sum a b h k = le_trans (nat_abs_+ℤ a b) (add-le-add h k)

pub range_difference : {m n : ℕ} (a b : ℤ) → nat_abs a ≤ m → nat_abs b ≤ n → nat_abs (a -ℤ b) ≤ m + n
range_difference a b h k = le_trans (nat_abs_-ℤ a b) (add-le-add h k)

pub range_product : {m n : ℕ} (a b : ℤ) → nat_abs a ≤ m → nat_abs b ≤ n → nat_abs (a *ℤ b) ≤ m * n
range_product a b h k = le_trans (le_of_eq (nat_abs_*ℤ a b)) (mul-le-mul h k)

-- two numbers that are not negative differ by no more than their larger bound
pub range_gap : {m : ℕ} (a b : ℤ) → pos 0 ≤ℤ a → a ≤ℤ pos m → pos 0 ≤ℤ b → b ≤ℤ pos m → nat_abs (a -ℤ b) ≤ m
range_gap a b p h q k = omega (arith, ints)

-- ---- bounds and the order
pub range_in : {m : ℕ} (a : ℤ) → neg_ℤ (pos m) ≤ℤ a → a ≤ℤ pos m → nat_abs a ≤ m
range_in a h k = omega (arith, ints)

pub range_above : {m : ℕ} (a : ℤ) → nat_abs a ≤ m → a ≤ℤ pos m
range_above a h = omega (arith, ints)

pub range_below : {m : ℕ} (a : ℤ) → nat_abs a ≤ m → neg_ℤ (pos m) ≤ℤ a
range_below a h = omega (arith, ints)

-- the same for a product, as an order
pub product_within : {m n : ℕ} (a b : ℤ) → nat_abs a ≤ m → nat_abs b ≤ n → (neg_ℤ (pos (m * n)) ≤ℤ (a *ℤ b)) × ((a *ℤ b) ≤ℤ pos (m * n))
product_within a b h k = let r = range_product a b h k in (range_below (a *ℤ b) r, range_above (a *ℤ b) r)

-- ---- a width
pub range_fits : {m : ℕ} (w : Width) (a : ℤ) → nat_abs a ≤ m → m < 2 ^ hbits w → SFits w a
range_fits w a h k = omega (arith, ints)

pub range_back : {m : ℕ} (w : Width) (a : ℤ) → nat_abs a ≤ m → m < 2 ^ hbits w → to_z w (of_z w a) ≡ a
range_back w a h k = to_z-of_z w a (range_fits w a h k)

-- ---- a computation, step by step
pub record Reads (t z : ℤ) (m : ℕ) : Type 0 where
  pub is : t ≡ z
  pub within : nat_abs z ≤ m

pub reads : {m : ℕ} (z : ℤ) → nat_abs z ≤ m → Reads z z m
reads z h = record { is = refl; within = h }

-- a parameter of the width w, of which no more is known, as it stands in a goal
pub reads_fitting : (w : Width) (z : ℤ) → SFits w z → Reads (to_z w (of_z w z)) z (2 ^ hbits w)
reads_fitting w z f = record { is = to_z-of_z w z f; within = nat_abs-le z f.sfits }

pub reads_sum : {s t y z : ℤ} {m n : ℕ} → Reads s y m → Reads t z n → Reads (s +ℤ t) (y +ℤ z) (m + n)
reads_sum {y} {z} p q = record { is = ap₂ ◌+ℤ◌ p.is q.is; within = range_sum y z p.within q.within }

pub reads_difference : {s t y z : ℤ} {m n : ℕ} → Reads s y m → Reads t z n → Reads (s -ℤ t) (y -ℤ z) (m + n)
reads_difference {y} {z} p q = record { is = ap₂ ◌-ℤ◌ p.is q.is; within = range_difference y z p.within q.within }

pub reads_product : {s t y z : ℤ} {m n : ℕ} → Reads s y m → Reads t z n → Reads (s *ℤ t) (y *ℤ z) (m * n)
reads_product {y} {z} p q = record { is = ap₂ ◌*ℤ◌ p.is q.is; within = range_product y z p.within q.within }

pub reads_negated : {t z : ℤ} {m : ℕ} → Reads t z m → Reads (neg_ℤ t) (neg_ℤ z) m
reads_negated {z} p = record { is = ap neg_ℤ p.is; within = le_trans (le_of_eq (nat_abs_negℤ z)) p.within }

-- a weaker bound
pub reads_under : {t z : ℤ} {m : ℕ} (n : ℕ) → Reads t z m → m ≤ n → Reads t z n
reads_under n p h = record { is = p.is; within = le_trans p.within h }

pub reads_fits : {t z : ℤ} {m : ℕ} (w : Width) → Reads t z m → m < 2 ^ hbits w → SFits w t
reads_fits w p h = subst (SFits w) (sym p.is) (range_fits w _ p.within h)

pub reads_back : {t z : ℤ} {m : ℕ} (w : Width) → Reads t z m → m < 2 ^ hbits w → Reads (to_z w (of_z w t)) z m
reads_back {t} w p h = record { is = to_z-of_z w t (reads_fits w p h) ∙ p.is; within = p.within }
