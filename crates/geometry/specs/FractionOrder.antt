-- The order of fractions.
use Rattle.std.specs.Prelude.{◌≡◌, Bool, true, false, not, [], ◌∷◌, ℤ, pos, ◌*ℤ◌, ◌≤ℤ◌, ◌<ℤ◌, int_le, int_lt, refl}
use Rattle.algebra.specs.Expressions.{unknown, number, ◌⊗◌}
use Rattle.algebra.specs.Certificates.{◌≼◌, ◌≺◌, given, ◌⊞◌, ◌⊠◌}
use Rattle.algebra.proofs.Sign.{shows_over}
use Rattle.algebra.proofs.Order.{int_le→≤ℤ, int_le_false→<ℤ, ≤ℤ→int_le, ≤ℤ-trans, <ℤ→int_lt, ≤ℤ→int_lt_false, <ℤ→≤ℤ}
use Rattle.geometry.specs.Fraction.{Ratio, less, at_most}
use Rattle.geometry.specs.Rank.{FractionsAreOrdered}

pub int_le_total : (a b : ℤ) → int_le a b ≡ false → int_le b a ≡ true
int_le_total a b h = ≤ℤ→int_le {a = b} {b = a} (<ℤ→≤ℤ (int_le_false→<ℤ {a = a} {b = b} h))

pub int_le_transitive : (a b c : ℤ) → int_le a b ≡ true → int_le b c ≡ true → int_le a c ≡ true
int_le_transitive a b c h k = ≤ℤ→int_le {a = a} {b = c} (≤ℤ-trans (int_le→≤ℤ {a = a} {b = b} h) (int_le→≤ℤ {a = b} {b = c} k))

pub at_most_total : (p q : Ratio) → at_most p q ≡ false → at_most q p ≡ true
at_most_total p q = int_le_total (p.over *ℤ q.under) (q.over *ℤ p.under)

-- a/b ≤ c/d and c/d ≤ e/f: d (eb − af) is f (cb − ad) + b (ed − cf).
chained : (a b c d e f : ℤ) → pos 0 <ℤ b → pos 0 <ℤ d → pos 0 <ℤ f → (a *ℤ d) ≤ℤ (c *ℤ b) → (c *ℤ f) ≤ℤ (e *ℤ d) → (a *ℤ f) ≤ℤ (e *ℤ b)
chained a b c d e f b-positive d-positive f-positive first second =
    let va = unknown 0 in
    let vb = unknown 1 in
    let vc = unknown 2 in
    let vd = unknown 3 in
    let ve = unknown 4 in
    let vf = unknown 5 in
    let none = number (pos 0) in
    shows_over (a ∷ b ∷ c ∷ d ∷ e ∷ f ∷ [])
    ((none ≺ vb) ∷ (none ≺ vd) ∷ (none ≺ vf) ∷ (va ⊗ vd ≼ vc ⊗ vb) ∷ (vc ⊗ vf ≼ ve ⊗ vd) ∷ [])
    (va ⊗ vf ≼ ve ⊗ vb) (given 1) (given 2 ⊠ given 3 ⊞ given 0 ⊠ given 4)
    (b-positive, (d-positive, (f-positive, (first, (second, tt))))) refl

pub at_most_transitive : (p q r : Ratio) → pos 0 <ℤ p.under → pos 0 <ℤ q.under → pos 0 <ℤ r.under → at_most p q ≡ true → at_most q r ≡ true → at_most p r ≡ true
at_most_transitive p q r b d f first second =
    let one = int_le→≤ℤ {a = p.over *ℤ q.under} {b = q.over *ℤ p.under} first in
    let other = int_le→≤ℤ {a = q.over *ℤ r.under} {b = r.over *ℤ q.under} second in
    ≤ℤ→int_le {a = p.over *ℤ r.under} {b = r.over *ℤ p.under} (chained p.over p.under q.over q.under r.over r.under b d f one other)

denied : (a b : ℤ) (t : Bool) → int_le b a ≡ t → int_lt a b ≡ not t
denied a b true e = ≤ℤ→int_lt_false {a = a} {b = b} (int_le→≤ℤ {a = b} {b = a} e)
denied a b false e = <ℤ→int_lt {a = a} {b = b} (int_le_false→<ℤ {a = b} {b = a} e)

pub less_is : (p q : Ratio) → less p q ≡ not (at_most q p)
less_is p q = denied (p.over *ℤ q.under) (q.over *ℤ p.under) (at_most q p) refl

pub fractions_are_ordered_lem : FractionsAreOrdered
fractions_are_ordered_lem = record { total = at_most_total; transitive = at_most_transitive; strict = less_is }
