-- The order of the integers: it is total and decided by `lt_z` and `le_z`, sums keep it, and products follow the signs.
-- Reflexivity, irreflexivity and `<ℤ-≤ℤ_trans` are `lib.Signed`'s; what is linear is proved by `omega (arith, ints)`.
-- Assumes nothing.
use mathlib.Core.Path.{◌≡◌, refl, sym, ap, ◌∙◌, subst, subst₂}
use mathlib.Core.Bool.{Bool, true, false}
use mathlib.Core.Logic.{◌⊎◌, inl, inr, ⊎_elim}
use Prim.Native.Nat.{◌<◌}
use native.Mathlib.Nat.{mul-pos}
use native.Mathlib.Omega.{arith}
use lib.IntN.{ℤ, pos, negsuc, ◌+ℤ◌, ◌-ℤ◌, ◌*ℤ◌, neg_ℤ, *ℤ_comm, *ℤ-zero}
use lib.Signed.{lt_z, le_z, ◌<ℤ◌, ◌≤ℤ◌, clash_ℤ}
use borrow.Author.Differences.{ints}
use Rattle.algebra.specs.Laws.{OrderLaws}
use Rattle.algebra.proofs.Ring.{*ℤ-distributes-minus-left, negℤ-*ℤ_left, negℤ-*ℤ_right, negℤ-*ℤ_negℤ}
use Rattle.algebra.proofs.Range.{nat_abs_*ℤ, nat_abs_+ℤ}

-- ---- transitivity
pub ≤ℤ-trans : {a b c : ℤ} → a ≤ℤ b → b ≤ℤ c → a ≤ℤ c
≤ℤ-trans {a} {b} {c} h k = omega (arith, ints)

pub <ℤ-trans : {a b c : ℤ} → a <ℤ b → b <ℤ c → a <ℤ c
<ℤ-trans {a} {b} {c} h k = omega (arith, ints)

pub ≤ℤ-<ℤ-trans : {a b c : ℤ} → a ≤ℤ b → b <ℤ c → a <ℤ c
≤ℤ-<ℤ-trans {a} {b} {c} h k = omega (arith, ints)

pub ≤ℤ-antisym : {a b : ℤ} → a ≤ℤ b → b ≤ℤ a → a ≡ b
≤ℤ-antisym {a} {b} h k = omega (arith, ints)

pub <ℤ→≤ℤ : {a b : ℤ} → a <ℤ b → a ≤ℤ b
<ℤ→≤ℤ {a} {b} h = omega (arith, ints)

pub ≡→≤ℤ : {a b : ℤ} → a ≡ b → a ≤ℤ b
≡→≤ℤ {a} {b} e = omega (arith, ints)

-- ---- the tests and the order
pub int_lt→<ℤ : {a b : ℤ} → lt_z a b ≡ true → a <ℤ b
int_lt→<ℤ {a} {b} e = omega (arith, ints)

pub int_lt_false→≤ℤ : {a b : ℤ} → lt_z a b ≡ false → b ≤ℤ a
int_lt_false→≤ℤ {a} {b} e = omega (arith, ints)

pub <ℤ→int_lt : {a b : ℤ} → a <ℤ b → lt_z a b ≡ true
<ℤ→int_lt {a} {b} h = by (lt_z a b) refl
  where
    by : (t : Bool) → lt_z a b ≡ t → t ≡ true
    by true e = refl
    by false e = absurd (clash_ℤ h (int_lt_false→≤ℤ e))

pub ≤ℤ→int_lt_false : {a b : ℤ} → b ≤ℤ a → lt_z a b ≡ false
≤ℤ→int_lt_false {a} {b} h = by (lt_z a b) refl
  where
    by : (t : Bool) → lt_z a b ≡ t → t ≡ false
    by true e = absurd (clash_ℤ (int_lt→<ℤ e) h)
    by false e = refl

pub int_le→≤ℤ : {a b : ℤ} → le_z a b ≡ true → a ≤ℤ b
int_le→≤ℤ {a} {b} e = omega (arith, ints)

pub int_le_false→<ℤ : {a b : ℤ} → le_z a b ≡ false → b <ℤ a
int_le_false→<ℤ {a} {b} e = omega (arith, ints)

pub ≤ℤ→int_le : {a b : ℤ} → a ≤ℤ b → le_z a b ≡ true
≤ℤ→int_le {a} {b} h = by (le_z a b) refl
  where
    by : (t : Bool) → le_z a b ≡ t → t ≡ true
    by true e = refl
    by false e = absurd (clash_ℤ (int_le_false→<ℤ e) h)

pub <ℤ→int_le_false : {a b : ℤ} → b <ℤ a → le_z a b ≡ false
<ℤ→int_le_false {a} {b} h = by (le_z a b) refl
  where
    by : (t : Bool) → le_z a b ≡ t → t ≡ false
    by true e = absurd (clash_ℤ h (int_le→≤ℤ e))
    by false e = refl

-- ---- cases
pub below_or_not : (a b : ℤ) → (a <ℤ b) ⊎ (b ≤ℤ a)
below_or_not a b = by (lt_z a b) refl
  where
    by : (t : Bool) → lt_z a b ≡ t → (a <ℤ b) ⊎ (b ≤ℤ a)
    by true e = inl (int_lt→<ℤ e)
    by false e = inr (int_lt_false→≤ℤ e)

pub ≤ℤ-total : (a b : ℤ) → (a ≤ℤ b) ⊎ (b ≤ℤ a)
≤ℤ-total a b = ⊎_elim (λ h. inl (<ℤ→≤ℤ h)) inr (below_or_not a b)

pub ≤ℤ-cases : {a b : ℤ} → a ≤ℤ b → (a <ℤ b) ⊎ (a ≡ b)
≤ℤ-cases {a} {b} h = ⊎_elim inl (λ k. inr (≤ℤ-antisym h k)) (below_or_not a b)

pub trichotomy : (a b : ℤ) → (a <ℤ b) ⊎ ((a ≡ b) ⊎ (b <ℤ a))
trichotomy a b = ⊎_elim inl (λ h. inr (⊎_elim inr (λ e. inl (sym e)) (≤ℤ-cases h))) (below_or_not a b)

pub sign_cases : (a : ℤ) → (a <ℤ pos 0) ⊎ ((a ≡ pos 0) ⊎ (pos 0 <ℤ a))
sign_cases a = trichotomy a (pos 0)

-- ---- denials
pub ¬<ℤ→≤ℤ : {a b : ℤ} → ¬ (a <ℤ b) → b ≤ℤ a
¬<ℤ→≤ℤ {a} {b} h = ⊎_elim (λ k. absurd (h k)) (λ k. k) (below_or_not a b)

pub ¬≤ℤ→<ℤ : {a b : ℤ} → ¬ (a ≤ℤ b) → b <ℤ a
¬≤ℤ→<ℤ {a} {b} h = ⊎_elim (λ k. k) (λ k. absurd (h k)) (below_or_not b a)

pub ≤ℤ→¬<ℤ : {a b : ℤ} → a ≤ℤ b → ¬ (b <ℤ a)
≤ℤ→¬<ℤ h k = clash_ℤ k h

pub <ℤ→≢ : {a b : ℤ} → a <ℤ b → ¬ (a ≡ b)
<ℤ→≢ {a} {b} h e = omega (arith, ints)

pub ≢→apart : {a b : ℤ} → ¬ (a ≡ b) → (a <ℤ b) ⊎ (b <ℤ a)
≢→apart {a} {b} n = ⊎_elim inl (λ s. ⊎_elim (λ e. absurd (n e)) inr s) (trichotomy a b)

-- ---- sums, differences and negation
pub +ℤ-mono-≤ : {a b c d : ℤ} → a ≤ℤ b → c ≤ℤ d → (a +ℤ c) ≤ℤ (b +ℤ d)
+ℤ-mono-≤ {a} {b} {c} {d} h k = omega (arith, ints)

pub +ℤ-mono-<-≤ : {a b c d : ℤ} → a <ℤ b → c ≤ℤ d → (a +ℤ c) <ℤ (b +ℤ d)
+ℤ-mono-<-≤ {a} {b} {c} {d} h k = omega (arith, ints)

pub +ℤ-mono-≤-< : {a b c d : ℤ} → a ≤ℤ b → c <ℤ d → (a +ℤ c) <ℤ (b +ℤ d)
+ℤ-mono-≤-< {a} {b} {c} {d} h k = omega (arith, ints)

pub negℤ_mono_≤ : {a b : ℤ} → a ≤ℤ b → neg_ℤ b ≤ℤ neg_ℤ a
negℤ_mono_≤ {a} {b} h = omega (arith, ints)

pub negℤ_mono_< : {a b : ℤ} → a <ℤ b → neg_ℤ b <ℤ neg_ℤ a
negℤ_mono_< {a} {b} h = omega (arith, ints)

pub ≤ℤ→0≤ : {a b : ℤ} → a ≤ℤ b → pos 0 ≤ℤ (b -ℤ a)
≤ℤ→0≤ {a} {b} h = omega (arith, ints)

pub <ℤ→0< : {a b : ℤ} → a <ℤ b → pos 0 <ℤ (b -ℤ a)
<ℤ→0< {a} {b} h = omega (arith, ints)

pub 0≤→≤ℤ : {a b : ℤ} → pos 0 ≤ℤ (b -ℤ a) → a ≤ℤ b
0≤→≤ℤ {a} {b} h = omega (arith, ints)

pub 0<→<ℤ : {a b : ℤ} → pos 0 <ℤ (b -ℤ a) → a <ℤ b
0<→<ℤ {a} {b} h = omega (arith, ints)

-- ---- the sign of a product
pub 0≤-*ℤ : {a b : ℤ} → pos 0 ≤ℤ a → pos 0 ≤ℤ b → pos 0 ≤ℤ (a *ℤ b)
0≤-*ℤ {a = pos a} {b = pos b} h k = omega (arith, ints)
0≤-*ℤ {a = pos a} {b = negsuc b} h k = absurd k.le
0≤-*ℤ {a = negsuc a} {b = b} h k = absurd h.le

pub 0<-*ℤ : {a b : ℤ} → pos 0 <ℤ a → pos 0 <ℤ b → pos 0 <ℤ (a *ℤ b)
0<-*ℤ {a = pos a} {b = pos b} h k = let p : 0 < a = omega (arith, ints) in let q : 0 < b = omega (arith, ints) in let r = mul-pos p q in omega (arith, ints)
0<-*ℤ {a = pos a} {b = negsuc b} h k = absurd k.lt
0<-*ℤ {a = negsuc a} {b = b} h k = absurd h.lt

pub 0≤-square : (a : ℤ) → pos 0 ≤ℤ (a *ℤ a)
0≤-square (pos a) = omega (arith, ints)
0≤-square (negsuc a) = omega (arith, ints)

pub 0<-square : {a : ℤ} → ¬ (a ≡ pos 0) → pos 0 <ℤ (a *ℤ a)
0<-square {a} n = ⊎_elim
    (λ h. subst (λ z. pos 0 <ℤ z) (negℤ-*ℤ_negℤ a a) (0<-*ℤ {a = neg_ℤ a} {b = neg_ℤ a} (negℤ_mono_< h) (negℤ_mono_< h)))
    (λ h. 0<-*ℤ h h)
    (≢→apart n)

pub <0-*ℤ-right : {a b : ℤ} → pos 0 <ℤ a → b <ℤ pos 0 → (a *ℤ b) <ℤ pos 0
<0-*ℤ-right {a} {b} h k = let p = 0<-*ℤ {a = a} {b = neg_ℤ b} h (negℤ_mono_< k) in let e = negℤ-*ℤ_right a b in omega (arith, ints)

pub <0-*ℤ-left : {a b : ℤ} → a <ℤ pos 0 → pos 0 <ℤ b → (a *ℤ b) <ℤ pos 0
<0-*ℤ-left {a} {b} h k = rw (*ℤ_comm a b) (<0-*ℤ-right {a = b} {b = a} k h)

pub <0-*ℤ-<0 : {a b : ℤ} → a <ℤ pos 0 → b <ℤ pos 0 → pos 0 <ℤ (a *ℤ b)
<0-*ℤ-<0 {a} {b} h k = subst (λ z. pos 0 <ℤ z) (negℤ-*ℤ_negℤ a b) (0<-*ℤ {a = neg_ℤ a} {b = neg_ℤ b} (negℤ_mono_< h) (negℤ_mono_< k))

pub ≤0-*ℤ-right : {a b : ℤ} → pos 0 ≤ℤ a → b ≤ℤ pos 0 → (a *ℤ b) ≤ℤ pos 0
≤0-*ℤ-right {a} {b} h k = let p = 0≤-*ℤ {a = a} {b = neg_ℤ b} h (negℤ_mono_≤ k) in let e = negℤ-*ℤ_right a b in omega (arith, ints)

-- ---- a factor on both sides
pub *ℤ-mono-≤ : {c : ℤ} (a b : ℤ) → pos 0 ≤ℤ c → a ≤ℤ b → (c *ℤ a) ≤ℤ (c *ℤ b)
*ℤ-mono-≤ {c} a b h k = 0≤→≤ℤ (subst (λ z. pos 0 ≤ℤ z) (*ℤ-distributes-minus-left c b a) (0≤-*ℤ {a = c} {b = b -ℤ a} h (≤ℤ→0≤ k)))

pub *ℤ-mono-< : {c : ℤ} (a b : ℤ) → pos 0 <ℤ c → a <ℤ b → (c *ℤ a) <ℤ (c *ℤ b)
*ℤ-mono-< {c} a b h k = 0<→<ℤ (subst (λ z. pos 0 <ℤ z) (*ℤ-distributes-minus-left c b a) (0<-*ℤ {a = c} {b = b -ℤ a} h (<ℤ→0< k)))

pub *ℤ-mono-≤-right : {c : ℤ} (a b : ℤ) → pos 0 ≤ℤ c → a ≤ℤ b → (a *ℤ c) ≤ℤ (b *ℤ c)
*ℤ-mono-≤-right {c} a b h k = subst₂ ◌≤ℤ◌ (*ℤ_comm c a) (*ℤ_comm c b) (*ℤ-mono-≤ a b h k)

pub *ℤ-mono-<-right : {c : ℤ} (a b : ℤ) → pos 0 <ℤ c → a <ℤ b → (a *ℤ c) <ℤ (b *ℤ c)
*ℤ-mono-<-right {c} a b h k = subst₂ ◌<ℤ◌ (*ℤ_comm c a) (*ℤ_comm c b) (*ℤ-mono-< a b h k)

-- both factors grow
pub *ℤ-mono₂-≤ : {a b c d : ℤ} → pos 0 ≤ℤ a → a ≤ℤ b → pos 0 ≤ℤ c → c ≤ℤ d → (a *ℤ c) ≤ℤ (b *ℤ d)
*ℤ-mono₂-≤ {a} {b} {c} {d} p h q k = ≤ℤ-trans (*ℤ-mono-≤ c d p k) (*ℤ-mono-≤-right a b (≤ℤ-trans q k) h)

pub *ℤ-cancel-≤ : {c : ℤ} (a b : ℤ) → pos 0 <ℤ c → (c *ℤ a) ≤ℤ (c *ℤ b) → a ≤ℤ b
*ℤ-cancel-≤ {c} a b h k = ⊎_elim (λ l. absurd (clash_ℤ (*ℤ-mono-< b a h l) k)) (λ l. l) (below_or_not b a)

pub *ℤ-cancel-< : {c : ℤ} (a b : ℤ) → pos 0 ≤ℤ c → (c *ℤ a) <ℤ (c *ℤ b) → a <ℤ b
*ℤ-cancel-< {c} a b h k = ⊎_elim (λ l. l) (λ l. absurd (clash_ℤ k (*ℤ-mono-≤ b a h l))) (below_or_not a b)

pub *ℤ-cancel-≤-right : {c : ℤ} (a b : ℤ) → pos 0 <ℤ c → (a *ℤ c) ≤ℤ (b *ℤ c) → a ≤ℤ b
*ℤ-cancel-≤-right {c} a b h k = *ℤ-cancel-≤ a b h (subst₂ ◌≤ℤ◌ (*ℤ_comm a c) (*ℤ_comm b c) k)

pub *ℤ-cancel-<-right : {c : ℤ} (a b : ℤ) → pos 0 ≤ℤ c → (a *ℤ c) <ℤ (b *ℤ c) → a <ℤ b
*ℤ-cancel-<-right {c} a b h k = *ℤ-cancel-< a b h (subst₂ ◌<ℤ◌ (*ℤ_comm a c) (*ℤ_comm b c) k)

pub *ℤ-cancel : {c : ℤ} (a b : ℤ) → pos 0 <ℤ c → c *ℤ a ≡ c *ℤ b → a ≡ b
*ℤ-cancel a b h e = ≤ℤ-antisym (*ℤ-cancel-≤ a b h (≡→≤ℤ e)) (*ℤ-cancel-≤ b a h (≡→≤ℤ (sym e)))

-- a product is 0 where a factor is
pub zero_product : (a b : ℤ) → a *ℤ b ≡ pos 0 → (a ≡ pos 0) ⊎ (b ≡ pos 0)
zero_product a b e = ⊎_elim (λ h. inr (negative h)) (λ s. ⊎_elim inl (λ h. inr (*ℤ-cancel b (pos 0) h (e ∙ sym (*ℤ-zero a)))) s) (sign_cases a)
  where
    negative : a <ℤ pos 0 → b ≡ pos 0
    negative h = *ℤ-cancel {c = neg_ℤ a} b (pos 0) (negℤ_mono_< h) (negℤ-*ℤ_left a b ∙ ap neg_ℤ e ∙ sym (*ℤ-zero (neg_ℤ a)))

-- the sign of a factor, where the other is positive
pub 0<-factor : {a : ℤ} (b : ℤ) → pos 0 <ℤ a → pos 0 <ℤ (a *ℤ b) → pos 0 <ℤ b
0<-factor {a} b h k = *ℤ-cancel-< (pos 0) b (<ℤ→≤ℤ h) (subst (λ z. z <ℤ (a *ℤ b)) (sym (*ℤ-zero a)) k)

pub 0≤-factor : {a : ℤ} (b : ℤ) → pos 0 <ℤ a → pos 0 ≤ℤ (a *ℤ b) → pos 0 ≤ℤ b
0≤-factor {a} b h k = *ℤ-cancel-≤ (pos 0) b h (subst (λ z. z ≤ℤ (a *ℤ b)) (sym (*ℤ-zero a)) k)

pub integers_are_ordered_lem : OrderLaws
integers_are_ordered_lem = record {
  at_most_transitive = λ a b c h k. ≤ℤ-trans h k;
  at_most_antisymmetric = λ a b h k. ≤ℤ-antisym h k;
  one_of_three = trichotomy;
  sum_keeps_order = λ a b c d h k. +ℤ-mono-≤ h k;
  product_of_positive = λ a b h k. 0<-*ℤ h k;
  positive_factor_cancels = λ a b c h k. *ℤ-cancel-≤ a b h k;
  size_of_product = nat_abs_*ℤ;
  size_of_sum = nat_abs_+ℤ;
}
