-- Orders and equations of polynomial expressions, shown by certificates from given facts.
-- `shows ρ known goal c proofs refl` proves the fact `goal` where the unknowns are the integers of ρ: the right side of the goal less its left side is
-- what the certificate c stands for. `proofs` has one for each given fact, in order, as `(p, (q, tt))`, and `given i` is the fact at place i:
--
--     means : (x y : ℤ) → pos 0 ≤ℤ x → x ≤ℤ y → (pos 2 *ℤ x *ℤ x) ≤ℤ (x *ℤ x +ℤ x *ℤ y)
--     means x y p q = let a = unknown 0 in let b = unknown 1 in
--         shows_le (x ∷ y ∷ []) ((number (pos 0) ≼ a) ∷ (a ≼ b) ∷ []) (number (pos 2) ⊗ a ⊗ a) (a ⊗ a ⊕ a ⊗ b) (given 0 ⊠ given 1) (p, (q, tt)) refl
--
-- `shows_over` takes a certificate of something positive too, by which the goal's difference is multiplied first: so a denominator is cancelled.
--
--     roots : (x y : ℤ) → pos 0 <ℤ x → pos 0 <ℤ y → (x *ℤ x) <ℤ (y *ℤ y) → x <ℤ y
--     roots x y p q h = let a = unknown 0 in let b = unknown 1 in
--         shows_over (x ∷ y ∷ []) ((number (pos 0) ≺ a) ∷ (number (pos 0) ≺ b) ∷ (a ⊗ a ≺ b ⊗ b) ∷ []) (a ≺ b) (given 0 ⊞ given 1) (given 2) (p, (q, (h, tt))) refl
--
-- `refutes` proves ⊥ from given facts that cannot all hold. Where `refl` is refused, look at `is_at_least_zero known c` or `is_above_zero known c`, and at
-- `form (gap goal ⊖ stated known c)`, in the same way as for identities.
-- Assumes nothing.
use mathlib.Core.Path.{◌≡◌, refl, sym, ap, ◌∙◌, subst}
use mathlib.Core.Bool.{Bool, true, false, ◌&&◌, ◌||◌}
use mathlib.Core.List.{List, [], ◌∷◌}
use mathlib.Core.Logic.{◌⊎◌, inl, inr, ⊎_elim}
use Prim.Native.Nat.{ℕ, zero, suc, ◌<◌}
use native.Mathlib.Omega.{arith}
use lib.Dec.{T, ltb→lt}
use lib.IntN.{ℤ, pos, ◌+ℤ◌, ◌-ℤ◌, ◌*ℤ◌, *ℤ-zero}
use lib.Signed.{◌<ℤ◌, ◌≤ℤ◌, <ℤ_irrefl}
use borrow.Author.Differences.{ints}
use Rattle.algebra.specs.Expressions.{Expression, number, ◌⊗◌, value}
use Rattle.algebra.specs.Forms.{same_form}
use Rattle.algebra.specs.Certificates.{Fact, ◌≼◌, ◌≺◌, ◌≈◌, Holds, AllHold, Certificate, given, natural, square, ◌⊞◌, ◌⊠◌, lowered, multiple, fact_at, gap, is_strict, is_equation, stated, is_above_zero, is_at_least_zero, is_zero_sum, suits, proves}
use Rattle.algebra.specs.Promises.{CertificatesHold}
use Rattle.algebra.proofs.Order.{≤ℤ→0≤, <ℤ→0<, 0≤→≤ℤ, 0<→<ℤ, <ℤ→≤ℤ, ≡→≤ℤ, +ℤ-mono-≤, +ℤ-mono-<-≤, +ℤ-mono-≤-<, 0≤-*ℤ, 0<-*ℤ, 0≤-square, 0≤-factor, 0<-factor, zero_product, <ℤ→≢}
use Rattle.algebra.proofs.Identity.{ring}

-- ---- tests
both : (a b : Bool) → T (a && b) → T a × T b
both true b t = (tt, t)
both false b t = absurd t

one_of : (a b : Bool) → T (a || b) → T a ⊎ T b
one_of true b t = inl tt
one_of false b t = inr t

is_true : {b : Bool} → b ≡ true → T b
is_true {b} e = rw e tt

so : {b : Bool} → T b → b ≡ true
so {b = true} t = refl
so {b = false} t = absurd t

-- ---- the given facts
fact_holds : (ρ : List ℤ) (known : List Fact) → AllHold ρ known → (i : ℕ) → Holds ρ (fact_at known i)
fact_holds ρ [] h i = refl
fact_holds ρ (f ∷ known) h zero = h.0
fact_holds ρ (f ∷ known) h (suc i) = fact_holds ρ known h.1 i

gap_at_least_zero : (ρ : List ℤ) (f : Fact) → Holds ρ f → pos 0 ≤ℤ value ρ (gap f)
gap_at_least_zero ρ (a ≼ b) h = ≤ℤ→0≤ h
gap_at_least_zero ρ (a ≺ b) h = <ℤ→≤ℤ (<ℤ→0< h)
gap_at_least_zero ρ (a ≈ b) h = ≤ℤ→0≤ (≡→≤ℤ h)

gap_above_zero : (ρ : List ℤ) (f : Fact) → Holds ρ f → T (is_strict f) → pos 0 <ℤ value ρ (gap f)
gap_above_zero ρ (a ≼ b) h t = absurd t
gap_above_zero ρ (a ≺ b) h t = <ℤ→0< h
gap_above_zero ρ (a ≈ b) h t = absurd t

gap_is_zero : (ρ : List ℤ) (f : Fact) → Holds ρ f → T (is_equation f) → value ρ (gap f) ≡ pos 0
gap_is_zero ρ (a ≼ b) h t = absurd t
gap_is_zero ρ (a ≺ b) h t = absurd t
gap_is_zero ρ (a ≈ b) h t = none (value ρ a) (value ρ b) h
  where
    none : (x y : ℤ) → x ≡ y → y -ℤ x ≡ pos 0
    none x y e = omega (arith, ints)

-- ---- the sign of what a certificate stands for
module _ (ρ : List ℤ) (known : List Fact) (h : AllHold ρ known) where
  multiple_is_zero : (a : Expression) (i : ℕ) → T (is_equation (fact_at known i)) → value ρ a *ℤ value ρ (gap (fact_at known i)) ≡ pos 0
  multiple_is_zero a i t = ap (λ z. value ρ a *ℤ z) (gap_is_zero ρ (fact_at known i) (fact_holds ρ known h i) t) ∙ *ℤ-zero (value ρ a)

  mutual
    above_zero : (c : Certificate) → T (is_above_zero known c) → pos 0 <ℤ value ρ (stated known c)
    above_zero (given i) t = gap_above_zero ρ (fact_at known i) (fact_holds ρ known h i) t
    above_zero (natural n) t = let p : 0 < n = ltb→lt 0 n t in omega (arith, ints)
    above_zero (square a) t = absurd t
    above_zero (x ⊞ y) t = ⊎_elim
        (λ s. let p = both (is_above_zero known x) (is_at_least_zero known y) s in +ℤ-mono-<-≤ {a = pos 0} {c = pos 0} (above_zero x p.0) (at_least_zero y p.1))
        (λ s. let p = both (is_at_least_zero known x) (is_above_zero known y) s in +ℤ-mono-≤-< {a = pos 0} {c = pos 0} (at_least_zero x p.0) (above_zero y p.1))
        (one_of (is_above_zero known x && is_at_least_zero known y) (is_at_least_zero known x && is_above_zero known y) t)
    above_zero (x ⊠ y) t = let p = both (is_above_zero known x) (is_above_zero known y) t in 0<-*ℤ (above_zero x p.0) (above_zero y p.1)
    above_zero (lowered x) t = absurd t
    above_zero (multiple a i) t = absurd t

    at_least_zero : (c : Certificate) → T (is_at_least_zero known c) → pos 0 ≤ℤ value ρ (stated known c)
    at_least_zero (given i) t = gap_at_least_zero ρ (fact_at known i) (fact_holds ρ known h i)
    at_least_zero (natural n) t = omega (arith, ints)
    at_least_zero (square a) t = 0≤-square (value ρ a)
    at_least_zero (x ⊞ y) t = let p = both (is_at_least_zero known x) (is_at_least_zero known y) t in +ℤ-mono-≤ {a = pos 0} {c = pos 0} (at_least_zero x p.0) (at_least_zero y p.1)
    at_least_zero (x ⊠ y) t = let p = both (is_at_least_zero known x) (is_at_least_zero known y) t in 0≤-*ℤ (at_least_zero x p.0) (at_least_zero y p.1)
    at_least_zero (lowered x) t = less (value ρ (stated known x)) (above_zero x t)
      where
        less : (z : ℤ) → pos 0 <ℤ z → pos 0 ≤ℤ (z -ℤ pos 1)
        less z p = omega (arith, ints)
    at_least_zero (multiple a i) t = ≡→≤ℤ (sym (multiple_is_zero a i t))

  is_zero_lem : (c : Certificate) → T (is_zero_sum known c) → value ρ (stated known c) ≡ pos 0
  is_zero_lem (given i) t = gap_is_zero ρ (fact_at known i) (fact_holds ρ known h i) t
  is_zero_lem (natural n) t = absurd t
  is_zero_lem (square a) t = absurd t
  is_zero_lem (x ⊞ y) t = let p = both (is_zero_sum known x) (is_zero_sum known y) t in ap (λ z. z +ℤ value ρ (stated known y)) (is_zero_lem x p.0) ∙ ap (λ z. pos 0 +ℤ z) (is_zero_lem y p.1)
  is_zero_lem (x ⊠ y) t = absurd t
  is_zero_lem (lowered x) t = absurd t
  is_zero_lem (multiple a i) t = multiple_is_zero a i t

  -- a fact, from its gap times a positive number
  from_gap : (k : ℤ) (c : Certificate) (f : Fact) → pos 0 <ℤ k → T (suits known c f) → k *ℤ value ρ (gap f) ≡ value ρ (stated known c) → Holds ρ f
  from_gap k c (a ≼ b) p t e = 0≤→≤ℤ (0≤-factor {a = k} (value ρ b -ℤ value ρ a) p (subst (λ z. pos 0 ≤ℤ z) (sym e) (at_least_zero c t)))
  from_gap k c (a ≺ b) p t e = 0<→<ℤ (0<-factor {a = k} (value ρ b -ℤ value ρ a) p (subst (λ z. pos 0 <ℤ z) (sym e) (above_zero c t)))
  from_gap k c (a ≈ b) p t e = ⊎_elim (λ z. absurd (<ℤ→≢ p (sym z))) (λ z. level (value ρ a) (value ρ b) z) (zero_product k (value ρ b -ℤ value ρ a) (e ∙ is_zero_lem c t))
    where
      level : (x y : ℤ) → y -ℤ x ≡ pos 0 → x ≡ y
      level x y z = omega (arith, ints)

  shown : (factor c : Certificate) (f : Fact) → T (proves known factor c f) → Holds ρ f
  shown factor c f t =
      let p = both (is_above_zero known factor && suits known c f) (same_form (stated known factor ⊗ gap f) (stated known c)) t in
      let q = both (is_above_zero known factor) (suits known c f) p.0 in
      from_gap (value ρ (stated known factor)) c f (above_zero factor q.0) q.1 (ring ρ (stated known factor ⊗ gap f) (stated known c) (so p.1))

-- ---- what is used
pub shows_over : (ρ : List ℤ) (known : List Fact) (goal : Fact) (factor c : Certificate) → AllHold ρ known → proves known factor c goal ≡ true → Holds ρ goal
shows_over ρ known goal factor c h e = shown ρ known h factor c goal (is_true e)

pub shows : (ρ : List ℤ) (known : List Fact) (goal : Fact) (c : Certificate) → AllHold ρ known → proves known (natural 1) c goal ≡ true → Holds ρ goal
shows ρ known goal c h e = shows_over ρ known goal (natural 1) c h e

pub shows_le : (ρ : List ℤ) (known : List Fact) (a b : Expression) (c : Certificate) → AllHold ρ known → proves known (natural 1) c (a ≼ b) ≡ true → value ρ a ≤ℤ value ρ b
shows_le ρ known a b c h e = shows ρ known (a ≼ b) c h e

pub shows_lt : (ρ : List ℤ) (known : List Fact) (a b : Expression) (c : Certificate) → AllHold ρ known → proves known (natural 1) c (a ≺ b) ≡ true → value ρ a <ℤ value ρ b
shows_lt ρ known a b c h e = shows ρ known (a ≺ b) c h e

pub shows_equal : (ρ : List ℤ) (known : List Fact) (a b : Expression) (c : Certificate) → AllHold ρ known → proves known (natural 1) c (a ≈ b) ≡ true → value ρ a ≡ value ρ b
shows_equal ρ known a b c h e = shows ρ known (a ≈ b) c h e

-- the given facts cannot all hold: the certificate shows that 0 is above 0
pub refutes : (ρ : List ℤ) (known : List Fact) (c : Certificate) → AllHold ρ known → proves known (natural 1) c (number (pos 0) ≺ number (pos 0)) ≡ true → ⊥
refutes ρ known c h e = <ℤ_irrefl (shows ρ known (number (pos 0) ≺ number (pos 0)) c h e)

pub certificates_hold_lem : CertificatesHold
certificates_hold_lem = record { sound = shows_over; accepts = refl; divides = refl; refuses = refl }
