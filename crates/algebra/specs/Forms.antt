-- The normal form of a polynomial: a sum of terms in falling order, each a coefficient other than 0 and the unknowns that it is multiplied by.
-- Two expressions with one form have the same value everywhere; `same_form` decides that by computing.
-- Assumes nothing.
use Prim.Native.Nat.{ℕ, compare, Ordering}
use Rattle.std.specs.Prelude.{Bool, true, false, cond, List, [], ◌∷◌, leb, ℤ, pos, negsuc, ◌+ℤ◌, ◌*ℤ◌}
use Rattle.algebra.specs.Expressions.{Expression, unknown, number, ◌⊕◌, ◌⊖◌, ◌⊗◌, minus}

-- a product of unknowns, in rising order of their places
abbrev pub Monomial : Type 0
Monomial = List ℕ

pub data Form : Type 0 where
  nothing : Form
  term : ℤ → Monomial → Form → Form

-- `at_less`, `at_equal` or `at_greater`, as the comparison says
abbrev pub by_order : {A : Type 0} → Ordering → A → A → A → A
by_order Ordering.lt at_less at_equal at_greater = at_less
by_order Ordering.eq at_less at_equal at_greater = at_equal
by_order Ordering.gt at_less at_equal at_greater = at_greater

-- the lexicographic order, in which to multiply two monomials by a third keeps their order: so a longer one comes before its own beginning
abbrev pub compare_monomials : Monomial → Monomial → Ordering
compare_monomials [] [] = Ordering.eq
compare_monomials [] (j ∷ n) = Ordering.gt
compare_monomials (i ∷ m) [] = Ordering.lt
compare_monomials (i ∷ m) (j ∷ n) = let later = compare_monomials m n in by_order (compare i j) Ordering.lt later Ordering.gt

abbrev pub times_unknown : ℕ → Monomial → Monomial
times_unknown i [] = i ∷ []
times_unknown i (j ∷ m) = let later = j ∷ times_unknown i m in cond (leb i j) (i ∷ j ∷ m) later

abbrev pub times_monomial : Monomial → Monomial → Monomial
times_monomial [] n = n
times_monomial (i ∷ m) n = times_unknown i (times_monomial m n)

abbrev pub is_zero : ℤ → Bool
is_zero (pos n) = leb n 0
is_zero (negsuc n) = false

-- a term in front, but none with the coefficient 0
abbrev pub with_term : ℤ → Monomial → Form → Form
with_term c m p = cond (is_zero c) p (term c m p)

-- the sum of a term, of what `rest` adds, and of a form
abbrev pub plus_term : ℤ → Monomial → (Form → Form) → Form → Form
plus_term c m rest nothing = term c m (rest nothing)
plus_term c m rest (term d n q) =
    let before = term c m (rest (term d n q)) in
    let joined = with_term (c +ℤ d) m (rest q) in
    let after = term d n (plus_term c m rest q) in
    by_order (compare_monomials m n) before joined after

abbrev pub plus : Form → Form → Form
plus nothing = λ q. q
plus (term c m p) = plus_term c m (plus p)

abbrev pub scaled : ℤ → Monomial → Form → Form
scaled c m nothing = nothing
scaled c m (term d n q) = with_term (c *ℤ d) (times_monomial m n) (scaled c m q)

abbrev pub times : Form → Form → Form
times nothing q = nothing
times (term c m p) q = plus (scaled c m q) (times p q)

abbrev pub form : Expression → Form
form (unknown i) = term (pos 1) (i ∷ []) nothing
form (number n) = with_term n [] nothing
form (a ⊕ b) = plus (form a) (form b)
form (a ⊖ b) = plus (form a) (scaled (negsuc 0) [] (form b))
form (a ⊗ b) = times (form a) (form b)
form (minus a) = scaled (negsuc 0) [] (form a)

abbrev pub is_nothing : Form → Bool
is_nothing nothing = true
is_nothing (term c m p) = false

-- the difference is 0
abbrev pub same_form : Expression → Expression → Bool
same_form a b = is_nothing (form (a ⊖ b))
