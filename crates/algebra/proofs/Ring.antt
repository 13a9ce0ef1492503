-- The ring laws of the integers that the kit does not have: associativity of the product, distributivity, and what follows for negation and subtraction.
-- An integer z is read as `up z - down z`; a law is then one of the natural numbers.
-- Assumes nothing.
use mathlib.Core.Path.{◌≡◌, refl, sym, ap, ◌∙◌}
use Prim.Native.Nat.{◌*◌}
use native.Mathlib.Omega.{arith}
use lib.IntN.{ℤ, pos, ◌+ℤ◌, ◌-ℤ◌, ◌*ℤ◌, neg_ℤ, +ℤ_comm, +ℤ_assoc, +ℤ_idr, +ℤ_invr, *ℤ_comm, neg_ℤ-neg_ℤ}
use borrow.Author.Differences.{up, down, same_in, sum_is_lem, neg_is, product_is, ints}
use Rattle.algebra.specs.Laws.{RingLaws}

pub *ℤ-distributes-left : (a b c : ℤ) → a *ℤ (b +ℤ c) ≡ a *ℤ b +ℤ a *ℤ c
*ℤ-distributes-left a b c =
    let over = ap (λ n. up a * n) (sum_is_lem b c) in
    let under = ap (λ n. down a * n) (sum_is_lem b c) in
    omega (arith, same_in, sum_is_lem, product_is)

pub *ℤ-distributes-right : (a b c : ℤ) → (a +ℤ b) *ℤ c ≡ a *ℤ c +ℤ b *ℤ c
*ℤ-distributes-right a b c = *ℤ_comm (a +ℤ b) c ∙ *ℤ-distributes-left c a b ∙ ap (λ z. z +ℤ c *ℤ b) (*ℤ_comm c a) ∙ ap (λ z. a *ℤ c +ℤ z) (*ℤ_comm c b)

pub *ℤ-assoc : (a b c : ℤ) → (a *ℤ b) *ℤ c ≡ a *ℤ (b *ℤ c)
*ℤ-assoc a b c =
    let left_up = ap (λ n. n * up c) (product_is a b).0 in
    let left_down = ap (λ n. n * down c) (product_is a b).1 in
    let left-up' = ap (λ n. n * down c) (product_is a b).0 in
    let left-down' = ap (λ n. n * up c) (product_is a b).1 in
    let right-up = ap (λ n. up a * n) (product_is b c).0 in
    let right-down = ap (λ n. down a * n) (product_is b c).1 in
    let right-up' = ap (λ n. down a * n) (product_is b c).0 in
    let right-down' = ap (λ n. up a * n) (product_is b c).1 in
    omega (arith, same_in, product_is)

-- ---- units and zero
pub *ℤ-idr : (a : ℤ) → a *ℤ pos 1 ≡ a
*ℤ-idr a = omega (arith, same_in, product_is)

pub *ℤ-idl : (a : ℤ) → pos 1 *ℤ a ≡ a
*ℤ-idl a = omega (arith, same_in, product_is)

-- ---- negation and subtraction
pub negℤ-*ℤ_left : (a b : ℤ) → neg_ℤ a *ℤ b ≡ neg_ℤ (a *ℤ b)
negℤ-*ℤ_left a b =
    let n = neg_is a in
    let over = ap (λ k. k * up b) n.0 in
    let over' = ap (λ k. k * down b) n.0 in
    let under = ap (λ k. k * down b) n.1 in
    let under' = ap (λ k. k * up b) n.1 in
    omega (arith, same_in, neg_is, product_is)

pub negℤ-*ℤ_right : (a b : ℤ) → a *ℤ neg_ℤ b ≡ neg_ℤ (a *ℤ b)
negℤ-*ℤ_right a b = *ℤ_comm a (neg_ℤ b) ∙ negℤ-*ℤ_left b a ∙ ap neg_ℤ (*ℤ_comm b a)

pub negℤ-*ℤ_negℤ : (a b : ℤ) → neg_ℤ a *ℤ neg_ℤ b ≡ a *ℤ b
negℤ-*ℤ_negℤ a b = negℤ-*ℤ_left a (neg_ℤ b) ∙ ap neg_ℤ (negℤ-*ℤ_right a b) ∙ neg_ℤ-neg_ℤ (a *ℤ b)

pub *ℤ-distributes-minus-left : (a b c : ℤ) → a *ℤ (b -ℤ c) ≡ a *ℤ b -ℤ a *ℤ c
*ℤ-distributes-minus-left a b c = *ℤ-distributes-left a b (neg_ℤ c) ∙ ap (λ z. a *ℤ b +ℤ z) (negℤ-*ℤ_right a c)

pub *ℤ-distributes-minus-right : (a b c : ℤ) → (a -ℤ b) *ℤ c ≡ a *ℤ c -ℤ b *ℤ c
*ℤ-distributes-minus-right a b c = *ℤ-distributes-right a (neg_ℤ b) c ∙ ap (λ z. a *ℤ c +ℤ z) (negℤ-*ℤ_left b c)

-- ---- equal differences and equal numbers
pub minus_zero→same : (a b : ℤ) → a -ℤ b ≡ pos 0 → a ≡ b
minus_zero→same a b e = omega (arith, ints)

pub same→minus_zero : (a b : ℤ) → a ≡ b → a -ℤ b ≡ pos 0
same→minus_zero a b e = omega (arith, ints)

-- the order of factors and summands
pub *ℤ-left-comm : (a b c : ℤ) → a *ℤ (b *ℤ c) ≡ b *ℤ (a *ℤ c)
*ℤ-left-comm a b c = sym (*ℤ-assoc a b c) ∙ ap (λ z. z *ℤ c) (*ℤ_comm a b) ∙ *ℤ-assoc b a c

pub *ℤ-interchange : (a b c d : ℤ) → (a *ℤ b) *ℤ (c *ℤ d) ≡ (a *ℤ c) *ℤ (b *ℤ d)
*ℤ-interchange a b c d = *ℤ-assoc a b (c *ℤ d) ∙ ap (λ z. a *ℤ z) (*ℤ-left-comm b c d) ∙ sym (*ℤ-assoc a c (b *ℤ d))

pub +ℤ-left-comm : (a b c : ℤ) → a +ℤ (b +ℤ c) ≡ b +ℤ (a +ℤ c)
+ℤ-left-comm a b c = sym (+ℤ_assoc a b c) ∙ ap (λ z. z +ℤ c) (+ℤ_comm a b) ∙ +ℤ_assoc b a c

pub integers_form_a_ring_lem : RingLaws
integers_form_a_ring_lem = record {
  sum_commutes = +ℤ_comm;
  sum_associates = +ℤ_assoc;
  sum_zero = +ℤ_idr;
  sum_negated = +ℤ_invr;
  difference = λ a b. refl;
  product_commutes = *ℤ_comm;
  product_associates = *ℤ-assoc;
  product_one = *ℤ-idr;
  product_distributes = *ℤ-distributes-left;
}
