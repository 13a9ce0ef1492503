-- Polynomial identities of integers, checked by computing: `ring ρ a b refl` proves that the expressions a and b have the same value where the
-- unknowns are the integers of the list ρ. `value` unfolds by itself, so that the result is an equation between terms of `◌+ℤ◌`, `◌-ℤ◌`, `◌*ℤ◌` and `neg_ℤ`:
--
--     squares : (x y : ℤ) → (x +ℤ y) *ℤ (x -ℤ y) ≡ x *ℤ x -ℤ y *ℤ y
--     squares x y = let a = unknown 0 in let b = unknown 1 in ring (x ∷ y ∷ []) ((a ⊕ b) ⊗ (a ⊖ b)) (a ⊗ a ⊖ b ⊗ b) refl
--
-- Every integer that is no literal has to be an unknown, or else the form does not compute. A definition over ℤ that is an `abbrev` is best written once
-- more over `Expression`. Where `refl` is refused, `let left : form (a ⊖ b) ≡ nothing = refl in` has the refusal show the terms that are left.
-- Assumes nothing.
use mathlib.Core.Path.{◌≡◌, refl, sym, ap, ◌∙◌}
use mathlib.Core.Bool.{Bool, true, false, cond, false≢true}
use mathlib.Core.List.{List, [], ◌∷◌}
use Prim.Native.Nat.{ℕ, compare, Ordering}
use native.Mathlib.Omega.{arith}
use lib.Dec.{leb, leb→le, eqb→eq}
use lib.ListN.{get_or}
use lib.IntN.{ℤ, pos, negsuc, ◌+ℤ◌, ◌-ℤ◌, ◌*ℤ◌, neg_ℤ, +ℤ_assoc, +ℤ_idl, +ℤ_idr, zero-*ℤ, *ℤ-zero}
use borrow.Author.Differences.{ints}
use Rattle.algebra.specs.Expressions.{Expression, unknown, number, ◌⊕◌, ◌⊖◌, ◌⊗◌, minus, value}
use Rattle.algebra.specs.Forms.{Form, nothing, term, Monomial, by_order, compare_monomials, times_unknown, times_monomial, is_zero, with_term, plus_term, plus, scaled, times, form, is_nothing, same_form}
use Rattle.algebra.specs.Promises.{IdentitiesHold}
use Rattle.algebra.proofs.Ring.{*ℤ-distributes-left, *ℤ-distributes-right, *ℤ-assoc, *ℤ-idl, *ℤ-idr, *ℤ-left-comm, *ℤ-interchange, +ℤ-left-comm, negℤ-*ℤ_left, minus_zero→same}

-- ---- what a monomial and a form stand for
abbrev product : List ℤ → Monomial → ℤ
product ρ [] = pos 1
product ρ (i ∷ m) = get_or ρ i (pos 0) *ℤ product ρ m

abbrev total : List ℤ → Form → ℤ
total ρ nothing = pos 0
total ρ (term c m p) = c *ℤ product ρ m +ℤ total ρ p

-- ---- a choice, by its cases
either : {A : Type 0} (P : A → Type 0) (b : Bool) {x y : A} → (b ≡ true → P x) → (b ≡ false → P y) → P (cond b x y)
either P true f g = f refl
either P false f g = g refl

any_order : {A : Type 0} (P : A → Type 0) (o : Ordering) {x y z : A} → (o ≡ Ordering.lt → P x) → (o ≡ Ordering.eq → P y) → (o ≡ Ordering.gt → P z) → P (by_order o x y z)
any_order P Ordering.lt f g h = f refl
any_order P Ordering.eq f g h = g refl
any_order P Ordering.gt f g h = h refl

-- ---- monomials
abbrev Equal : Ordering → Type 0 → Type 0
Equal Ordering.lt A = Unit {0}
Equal Ordering.eq A = A
Equal Ordering.gt A = Unit {0}

equal : (o : Ordering) {A : Type 0} → Equal o A → o ≡ Ordering.eq → A
equal o {A} h e = rw e at h

equals : (o : Ordering) {A : Type 0} → (o ≡ Ordering.eq → A) → Equal o A
equals Ordering.lt f = tt
equals Ordering.eq f = f refl
equals Ordering.gt f = tt

same_unknowns : (i j : ℕ) → compare i j ≡ Ordering.eq → i ≡ j
same_unknowns i j e = eqb→eq i j (rw e tt)

same_monomials : (m n : Monomial) → Equal (compare_monomials m n) (m ≡ n)
same_monomials [] [] = refl
same_monomials [] (j ∷ n) = tt
same_monomials (i ∷ m) [] = tt
same_monomials (i ∷ m) (j ∷ n) = any_order (λ o. Equal o ((i ∷ m) ≡ (j ∷ n))) (compare i j)
    (λ e. tt)
    (λ e. equals (compare_monomials m n) (λ f. ap (λ k. k ∷ m) (same_unknowns i j e) ∙ ap (λ k. j ∷ k) (equal (compare_monomials m n) (same_monomials m n) f)))
    (λ e. tt)

times_unknown_lem : (ρ : List ℤ) (i : ℕ) (m : Monomial) → product ρ (times_unknown i m) ≡ get_or ρ i (pos 0) *ℤ product ρ m
times_unknown_lem ρ i [] = refl
times_unknown_lem ρ i (j ∷ m) = either (λ k. product ρ k ≡ get_or ρ i (pos 0) *ℤ (get_or ρ j (pos 0) *ℤ product ρ m)) (leb i j)
    (λ e. refl)
    (λ e. ap (λ z. get_or ρ j (pos 0) *ℤ z) (times_unknown_lem ρ i m) ∙ *ℤ-left-comm (get_or ρ j (pos 0)) (get_or ρ i (pos 0)) (product ρ m))

times_monomial_lem : (ρ : List ℤ) (m n : Monomial) → product ρ (times_monomial m n) ≡ product ρ m *ℤ product ρ n
times_monomial_lem ρ [] n = sym (*ℤ-idl (product ρ n))
times_monomial_lem ρ (i ∷ m) n =
    times_unknown_lem ρ i (times_monomial m n) ∙ ap (λ z. get_or ρ i (pos 0) *ℤ z) (times_monomial_lem ρ m n) ∙ sym (*ℤ-assoc (get_or ρ i (pos 0)) (product ρ m) (product ρ n))

-- ---- forms
is_zero_lem : (c : ℤ) → is_zero c ≡ true → c ≡ pos 0
is_zero_lem (pos n) e = ap pos (let h = leb→le n 0 (rw e tt) in omega arith)
is_zero_lem (negsuc n) e = absurd (false≢true e)

with_term_lem : (ρ : List ℤ) (c : ℤ) (m : Monomial) (p : Form) → total ρ (with_term c m p) ≡ c *ℤ product ρ m +ℤ total ρ p
with_term_lem ρ c m p = either (λ q. total ρ q ≡ c *ℤ product ρ m +ℤ total ρ p) (is_zero c)
    (λ e. sym (+ℤ_idl (total ρ p)) ∙ ap (λ z. z +ℤ total ρ p) (sym (zero-*ℤ (product ρ m)) ∙ ap (λ z. z *ℤ product ρ m) (sym (is_zero_lem c e))))
    (λ e. refl)

plus_term_lem : (ρ : List ℤ) (c : ℤ) (m : Monomial) (rest : Form → Form) (p : ℤ) → ((q : Form) → total ρ (rest q) ≡ p +ℤ total ρ q) →
    (q : Form) → total ρ (plus_term c m rest q) ≡ c *ℤ product ρ m +ℤ p +ℤ total ρ q
plus_term_lem ρ c m rest p h nothing = ap (λ z. c *ℤ product ρ m +ℤ z) (h nothing) ∙ sym (+ℤ_assoc (c *ℤ product ρ m) p (pos 0))
plus_term_lem ρ c m rest p h (term d n q) = any_order (λ r. total ρ r ≡ c *ℤ product ρ m +ℤ p +ℤ (d *ℤ product ρ n +ℤ total ρ q)) (compare_monomials m n)
    (λ e. ap (λ z. c *ℤ product ρ m +ℤ z) (h (term d n q)) ∙ sym (+ℤ_assoc (c *ℤ product ρ m) p (d *ℤ product ρ n +ℤ total ρ q)))
    (λ e. with_term_lem ρ (c +ℤ d) m (rest q) ∙ ap (λ z. (c +ℤ d) *ℤ product ρ m +ℤ z) (h q) ∙ ap (λ z. z +ℤ (p +ℤ total ρ q)) (*ℤ-distributes-right c d (product ρ m))
    ∙ joined (c *ℤ product ρ m) (d *ℤ product ρ m) p (total ρ q)
    ∙ ap (λ k. c *ℤ product ρ m +ℤ p +ℤ (d *ℤ product ρ k +ℤ total ρ q)) (equal (compare_monomials m n) (same_monomials m n) e))
    (λ e. ap (λ z. d *ℤ product ρ n +ℤ z) (plus_term_lem ρ c m rest p h q) ∙ +ℤ-left-comm (d *ℤ product ρ n) (c *ℤ product ρ m +ℤ p) (total ρ q))
  where
    joined : (x y p q : ℤ) → x +ℤ y +ℤ (p +ℤ q) ≡ x +ℤ p +ℤ (y +ℤ q)
    joined x y p q = omega (arith, ints)

plus_is : (ρ : List ℤ) (p q : Form) → total ρ (plus p q) ≡ total ρ p +ℤ total ρ q
plus_is ρ nothing q = sym (+ℤ_idl (total ρ q))
plus_is ρ (term c m p) q = plus_term_lem ρ c m (plus p) (total ρ p) (plus_is ρ p) q

scaled_is : (ρ : List ℤ) (c : ℤ) (m : Monomial) (p : Form) → total ρ (scaled c m p) ≡ c *ℤ product ρ m *ℤ total ρ p
scaled_is ρ c m nothing = sym (*ℤ-zero (c *ℤ product ρ m))
scaled_is ρ c m (term d n q) =
    with_term_lem ρ (c *ℤ d) (times_monomial m n) (scaled c m q)
    ∙ ap (λ z. c *ℤ d *ℤ z +ℤ total ρ (scaled c m q)) (times_monomial_lem ρ m n)
    ∙ ap (λ z. z +ℤ total ρ (scaled c m q)) (*ℤ-interchange c d (product ρ m) (product ρ n))
    ∙ ap (λ z. c *ℤ product ρ m *ℤ (d *ℤ product ρ n) +ℤ z) (scaled_is ρ c m q)
    ∙ sym (*ℤ-distributes-left (c *ℤ product ρ m) (d *ℤ product ρ n) (total ρ q))

times_is : (ρ : List ℤ) (p q : Form) → total ρ (times p q) ≡ total ρ p *ℤ total ρ q
times_is ρ nothing q = sym (zero-*ℤ (total ρ q))
times_is ρ (term c m p) q =
    plus_is ρ (scaled c m q) (times p q)
    ∙ ap (λ z. z +ℤ total ρ (times p q)) (scaled_is ρ c m q)
    ∙ ap (λ z. c *ℤ product ρ m *ℤ total ρ q +ℤ z) (times_is ρ p q)
    ∙ sym (*ℤ-distributes-right (c *ℤ product ρ m) (total ρ p) (total ρ q))

negated_is : (ρ : List ℤ) (p : Form) → total ρ (scaled (negsuc 0) [] p) ≡ neg_ℤ (total ρ p)
negated_is ρ p = scaled_is ρ (negsuc 0) [] p ∙ negℤ-*ℤ_left (pos 1) (total ρ p) ∙ ap neg_ℤ (*ℤ-idl (total ρ p))

-- an expression's form has its value
pub form_is : (ρ : List ℤ) (a : Expression) → total ρ (form a) ≡ value ρ a
form_is ρ (unknown i) = +ℤ_idr (pos 1 *ℤ (get_or ρ i (pos 0) *ℤ pos 1)) ∙ *ℤ-idl (get_or ρ i (pos 0) *ℤ pos 1) ∙ *ℤ-idr (get_or ρ i (pos 0))
form_is ρ (number n) = with_term_lem ρ n [] nothing ∙ +ℤ_idr (n *ℤ pos 1) ∙ *ℤ-idr n
form_is ρ (a ⊕ b) = plus_is ρ (form a) (form b) ∙ ap (λ z. z +ℤ total ρ (form b)) (form_is ρ a) ∙ ap (λ z. value ρ a +ℤ z) (form_is ρ b)
form_is ρ (a ⊖ b) =
    plus_is ρ (form a) (scaled (negsuc 0) [] (form b)) ∙ ap (λ z. total ρ (form a) +ℤ z) (negated_is ρ (form b))
    ∙ ap (λ z. z -ℤ total ρ (form b)) (form_is ρ a) ∙ ap (λ z. value ρ a -ℤ z) (form_is ρ b)
form_is ρ (a ⊗ b) = times_is ρ (form a) (form b) ∙ ap (λ z. z *ℤ total ρ (form b)) (form_is ρ a) ∙ ap (λ z. value ρ a *ℤ z) (form_is ρ b)
form_is ρ (minus a) = negated_is ρ (form a) ∙ ap neg_ℤ (form_is ρ a)

nothing_is_zero : (ρ : List ℤ) (p : Form) → is_nothing p ≡ true → total ρ p ≡ pos 0
nothing_is_zero ρ nothing e = refl
nothing_is_zero ρ (term c m p) e = absurd (false≢true e)

pub ring : (ρ : List ℤ) (a b : Expression) → same_form a b ≡ true → value ρ a ≡ value ρ b
ring ρ a b e = minus_zero→same (value ρ a) (value ρ b) (sym (form_is ρ (a ⊖ b)) ∙ nothing_is_zero ρ (form (a ⊖ b)) e)

pub identities_hold_lem : IdentitiesHold
identities_hold_lem = record { sound = ring; accepts = refl; refuses = refl }
