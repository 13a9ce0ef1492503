-- At one x the edges are ranked: by height, and where that is equal by slope.
-- Assumes nothing.
use Rattle.std.proofs.Common.{◌≡◌, Bool, true, false, List, [], ◌∷◌, ℤ, pos, negsuc, ◌+ℤ◌, ◌-ℤ◌, ◌*ℤ◌, ◌≤ℤ◌, ◌<ℤ◌, sym, refl, inl, inr, ⊎_elim}
use Rattle.std.proofs.lemmas.Bool.{both_ways}
use Rattle.algebra.specs.Expressions.{Expression, unknown, number, ◌⊕◌, ◌⊖◌, ◌⊗◌}
use Rattle.algebra.specs.Certificates.{Fact, ◌≼◌, ◌≺◌, ◌≈◌, given, ◌⊞◌, ◌⊠◌, multiple}
use Rattle.algebra.proofs.Identity.{ring}
use Rattle.algebra.proofs.Order.{<ℤ→≤ℤ, ≡→≤ℤ, <ℤ→0<}
use Rattle.algebra.proofs.Ring.{same→minus_zero}
use Rattle.algebra.proofs.Sign.{shows_over}
use Rattle.records.specs.declared.raw.EdgeRecord.{EdgeRecord}
use Rattle.geometry.specs.Fraction.{Ratio, difference}
use Rattle.geometry.specs.Edge.{height, slope, lies_under}
use Rattle.geometry.specs.Conflict.{rise}
use Rattle.slabs.specs.Topmost.{Wide}
use Rattle.slabs.proofs.Signs.{AtLeast, above→at_least, zero→at_least}
use Rattle.slabs.proofs.Line.{tilt}
use Rattle.slabs.proofs.Order.{left, left_slope, under→higher, at_least→not_under, not_under→at_least}

-- p − r is p − q and q − r together, over all three denominators
differences : (p q r : Ratio) → q.under *ℤ difference p r ≡ r.under *ℤ difference p q +ℤ p.under *ℤ difference q r
differences p q r =
    let cross : Expression → Expression → Expression → Expression → Expression = λ a b c d. a ⊗ d ⊖ c ⊗ b in
    let po = unknown 0 in
    let pu = unknown 1 in
    let qo = unknown 2 in
    let qu = unknown 3 in
    let ro = unknown 4 in
    let ru = unknown 5 in
    ring (p.over ∷ p.under ∷ q.over ∷ q.under ∷ r.over ∷ r.under ∷ []) (qu ⊗ cross po pu ro ru) (ru ⊗ cross po pu qo qu ⊕ pu ⊗ cross qo qu ro ru) refl

-- ---- the sign of a sum with positive weights
module _ (u v w : ℤ) (positive : (pos 0 <ℤ u) × (pos 0 <ℤ v) × (pos 0 <ℤ w)) where
  abbrev Weighs : ℤ → ℤ → ℤ → Type 0
  Weighs a b c = u *ℤ c ≡ v *ℤ a +ℤ w *ℤ b

  abbrev none : Expression
  none = number (pos 0)

  abbrev first : Expression
  first = unknown 3

  abbrev second : Expression
  second = unknown 4

  abbrev sum : Expression
  sum = unknown 5

  abbrev facts : List Fact → List Fact
  facts more = (none ≺ unknown 0) ∷ (none ≺ unknown 1) ∷ (none ≺ unknown 2) ∷ (unknown 0 ⊗ sum ≈ unknown 1 ⊗ first ⊕ unknown 2 ⊗ second) ∷ more

  first_positive : (a b c : ℤ) → Weighs a b c → pos 0 <ℤ a → pos 0 ≤ℤ b → pos 0 <ℤ c
  first_positive a b c e h k = shows_over (u ∷ v ∷ w ∷ a ∷ b ∷ c ∷ []) (facts ((none ≺ first) ∷ (none ≼ second) ∷ [])) (none ≺ sum) (given 0)
      (given 1 ⊠ given 4 ⊞ given 2 ⊠ given 5 ⊞ multiple (number (negsuc 0)) 3) (positive.0, (positive.1, (positive.2, (e, (h, (k, tt)))))) refl

  second_positive : (a b c : ℤ) → Weighs a b c → pos 0 ≤ℤ a → pos 0 <ℤ b → pos 0 <ℤ c
  second_positive a b c e h k = shows_over (u ∷ v ∷ w ∷ a ∷ b ∷ c ∷ []) (facts ((none ≼ first) ∷ (none ≺ second) ∷ [])) (none ≺ sum) (given 0)
      (given 1 ⊠ given 4 ⊞ given 2 ⊠ given 5 ⊞ multiple (number (negsuc 0)) 3) (positive.0, (positive.1, (positive.2, (e, (h, (k, tt)))))) refl

  neither_negative : (a b c : ℤ) → Weighs a b c → pos 0 ≤ℤ a → pos 0 ≤ℤ b → pos 0 ≤ℤ c
  neither_negative a b c e h k = shows_over (u ∷ v ∷ w ∷ a ∷ b ∷ c ∷ []) (facts ((none ≼ first) ∷ (none ≼ second) ∷ [])) (none ≼ sum) (given 0)
      (given 1 ⊠ given 4 ⊞ given 2 ⊠ given 5 ⊞ multiple (number (negsuc 0)) 3) (positive.0, (positive.1, (positive.2, (e, (h, (k, tt)))))) refl

  both_zero : (a b c : ℤ) → Weighs a b c → a ≡ pos 0 → b ≡ pos 0 → c ≡ pos 0
  both_zero a b c e h k = shows_over (u ∷ v ∷ w ∷ a ∷ b ∷ c ∷ []) (facts ((first ≈ none) ∷ (second ≈ none) ∷ [])) (sum ≈ none) (given 0)
      (multiple (unknown 1) 4 ⊞ multiple (unknown 2) 5 ⊞ given 3) (positive.0, (positive.1, (positive.2, (e, (h, (k, tt)))))) refl

  at_least_sum : (a b c s t r : ℤ) → Weighs a b c → Weighs s t r → AtLeast a s → AtLeast b t → AtLeast c r
  at_least_sum a b c s t r e d h k = ⊎_elim (λ p. inl (first_positive a b c e p (⊎_elim <ℤ→≤ℤ (λ q. ≡→≤ℤ (sym q.0)) k)))
      (λ p. ⊎_elim (λ q. inl (second_positive a b c e (≡→≤ℤ (sym p.0)) q)) (λ q. inr (both_zero a b c e p.0 q.0, neither_negative s t r d p.1 q.1)) k) h

-- ---- the ranking
pub never_under_itself : (x : ℤ) (e : EdgeRecord) → lies_under x e e ≡ false
never_under_itself x e = at_least→not_under x e e (zero→at_least (same→minus_zero (left x e e) (left x e e) refl) (same→minus_zero (left_slope x e e) (left_slope x e e) refl))

pub never_under_each_other : (x : ℤ) (e f : EdgeRecord) → lies_under x e f ≡ true → lies_under x f e ≡ false
never_under_each_other x e f t = at_least→not_under x f e (above→at_least (under→higher x e f t))

pub not_under_transitive : (x : ℤ) (e f g : EdgeRecord) → Wide e → Wide f → Wide g → lies_under x e f ≡ false → lies_under x f g ≡ false → lies_under x e g ≡ false
not_under_transitive x e f g we wf wg p q = at_least→not_under x e g
    (at_least_sum (f.x2 -ℤ f.x1) (g.x2 -ℤ g.x1) (e.x2 -ℤ e.x1) (<ℤ→0< wf, <ℤ→0< wg, <ℤ→0< we) (rise e f x) (rise f g x) (rise e g x) (tilt e f) (tilt f g) (tilt e g)
    (differences (height e x) (height f x) (height g x)) (differences (slope e) (slope f) (slope g)) (not_under→at_least x e f p) (not_under→at_least x f g q))

pub under_transitive : (x : ℤ) (e f g : EdgeRecord) → Wide e → Wide f → Wide g → lies_under x e f ≡ true → lies_under x f g ≡ true → lies_under x e g ≡ true
under_transitive x e f g we wf wg p q = by (lies_under x e g) refl
  where
    by : (t : Bool) → lies_under x e g ≡ t → t ≡ true
    by true s = refl
    by false s = absurd (both_ways (lies_under x e f) (not_under_transitive x e g f we wg wf s (never_under_each_other x f g q)) p)
