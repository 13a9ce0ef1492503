-- Two edges that do not conflict: one is the higher one at every x that both cover.
-- Assumes nothing.
use Rattle.std.proofs.Common.{◌≡◌, true, false, ◌&&◌, ◌⊎◌, ℤ, ◌*ℤ◌, neg_ℤ, ◌≤ℤ◌, ◌<ℤ◌, sym, ◌∙◌, subst₂, inl, inr, ⊎_elim}
use lib.Signed.{lt_z, le_z}
use Rattle.std.proofs.lemmas.Bool.{both_ways, and_parts, and_cases, cond_both}
use Rattle.algebra.proofs.Order.{int_lt→<ℤ, int_le→≤ℤ, <ℤ→int_lt, ≤ℤ-<ℤ-trans, ≤ℤ-antisym}
use Rattle.algebra.proofs.Ring.{same→minus_zero}
use Rattle.records.specs.declared.raw.EdgeRecord.{EdgeRecord}
use Rattle.geometry.specs.Fraction.{Ratio}
use Rattle.geometry.specs.Edge.{covers, height, slope, lies_under}
use Rattle.geometry.specs.Conflict.{rise, touch_or_cross, west_limit, east_limit, conflict}
use Rattle.slabs.specs.Slab.{OrderIsKept, NeverLevel}
use Rattle.slabs.proofs.Signs.{AtLeast, above→at_least, never_both, above→before, at_least→not_before, before→above, not_before→at_least, one_of_three, one_side, Rises}
use Rattle.slabs.proofs.Line.{tilt, Higher, rise_turned, higher_between}

-- what is compared: less p q is lt_z (cross p q) (cross q p)
abbrev pub cross : Ratio → Ratio → ℤ
cross p q = p.over *ℤ q.under

-- ---- the test and the order
module _ (x : ℤ) (e f : EdgeRecord) where
  abbrev pub left : ℤ
  left = cross (height e x) (height f x)

  abbrev pub right : ℤ
  right = cross (height f x) (height e x)

  abbrev pub left_slope : ℤ
  left_slope = cross (slope e) (slope f)

  abbrev pub right_slope : ℤ
  right_slope = cross (slope f) (slope e)

  pub higher→under : Higher x f e → lies_under x e f ≡ true
  higher→under h = above→before left right left_slope right_slope h

  pub higher→not_under : Higher x e f → lies_under x e f ≡ false
  higher→not_under h = at_least→not_before left right left_slope right_slope (above→at_least h)

  pub at_least→not_under : AtLeast (rise e f x) (tilt e f) → lies_under x e f ≡ false
  at_least→not_under h = at_least→not_before left right left_slope right_slope h

  pub not_under→at_least : lies_under x e f ≡ false → AtLeast (rise e f x) (tilt e f)
  not_under→at_least t = not_before→at_least left right left_slope right_slope t

  pub under→higher : lies_under x e f ≡ true → Higher x f e
  under→higher t = before→above left right left_slope right_slope t

  -- one is the higher one, or neither differs
  pub one_or_level : Higher x f e ⊎ (Higher x e f ⊎ ((left ≡ right) × (left_slope ≡ right_slope)))
  one_or_level = one_of_three left right left_slope right_slope

  pub higher_never_level : Higher x e f → left ≡ right → left_slope ≡ right_slope → ⊥
  higher_never_level h p q = never_both h (same→minus_zero left right p) (same→minus_zero left_slope right_slope q)

-- ---- the stretch of x that both cover
pub west_of : (x : ℤ) (e f : EdgeRecord) → covers e x ≡ true → covers f x ≡ true → west_limit e f ≤ℤ x
west_of x e f p q = cond_both (lt_z f.x1 e.x1) e.x1 f.x1 (λ z. z ≤ℤ x)
    (λ _. int_le→≤ℤ (and_parts (le_z e.x1 x) (lt_z x e.x2) p).0) (λ _. int_le→≤ℤ (and_parts (le_z f.x1 x) (lt_z x f.x2) q).0)

pub east_of : (x : ℤ) (e f : EdgeRecord) → covers e x ≡ true → covers f x ≡ true → x <ℤ east_limit e f
east_of x e f p q = cond_both (lt_z f.x2 e.x2) f.x2 e.x2 (λ z. x <ℤ z)
    (λ _. int_lt→<ℤ (and_parts (le_z f.x1 x) (lt_z x f.x2) q).1) (λ _. int_lt→<ℤ (and_parts (le_z e.x1 x) (lt_z x e.x2) p).1)

-- e is the higher one at every x that both cover
abbrev pub Throughout : EdgeRecord → EdgeRecord → Type 0
Throughout e f = (x : ℤ) → covers e x ≡ true → covers f x ≡ true → Higher x e f

pub one_is_higher : (w : ℤ) (e f : EdgeRecord) → covers e w ≡ true → covers f w ≡ true → conflict e f ≡ false → Throughout e f ⊎ Throughout f e
one_is_higher w e f p q apart = ⊎_elim (λ s. inl (λ x a b. higher_between e f l r x s (west_of x e f a b) (east_of x e f a b)))
    (λ s. inr (λ x b a. higher_between f e l r x (turned s) (west_of x e f a b) (east_of x e f a b)))
    (one_side (rise e f l) (rise e f r) no_touch)
  where
    l : ℤ
    l = west_limit e f

    r : ℤ
    r = east_limit e f

    no_touch : touch_or_cross (rise e f l) (rise e f r) ≡ false
    no_touch = ⊎_elim (λ t. absurd (both_ways (lt_z l r) t (<ℤ→int_lt (≤ℤ-<ℤ-trans (west_of w e f p q) (east_of w e f p q))))) (λ t. t) (and_cases (lt_z l r) (touch_or_cross (rise e f l) (rise e f r)) apart)

    turned : Rises (neg_ℤ (rise e f l)) (neg_ℤ (rise e f r)) → Rises (rise f e l) (rise f e r)
    turned s = subst₂ Rises (sym (rise_turned e f l)) (sym (rise_turned e f r)) s

-- one of them lies under the other
pub one_lies_under : (x : ℤ) (e f : EdgeRecord) → covers e x ≡ true → covers f x ≡ true → conflict e f ≡ false → (lies_under x e f ≡ true) ⊎ (lies_under x f e ≡ true)
one_lies_under x e f p q apart = ⊎_elim (λ h. inr (higher→under x f e (h x p q))) (λ h. inl (higher→under x e f (h x q p))) (one_is_higher x e f p q apart)

pub order_is_kept : OrderIsKept
order_is_kept w x e f n m = ⊎_elim
    (λ h. higher→not_under w e f (h w n.e_covers n.f_covers) ∙ sym (higher→not_under x e f (h x m.e_covers m.f_covers)))
    (λ h. higher→under w e f (h w n.f_covers n.e_covers) ∙ sym (higher→under x e f (h x m.f_covers m.e_covers)))
    (one_is_higher w e f n.e_covers n.f_covers n.apart)

-- ---- equal fractions
level→same : (a b : ℤ) → (le_z a b && le_z b a) ≡ true → a ≡ b
level→same a b t = let p = and_parts (le_z a b) (le_z b a) t in ≤ℤ-antisym (int_le→≤ℤ p.0) (int_le→≤ℤ p.1)

-- of two edges that do not conflict one is the higher one
pub never_the_same : (w : ℤ) (e f : EdgeRecord) → covers e w ≡ true → covers f w ≡ true → conflict e f ≡ false → left w e f ≡ right w e f → left_slope w e f ≡ right_slope w e f → ⊥
never_the_same w e f p q apart heights slopes = ⊎_elim (λ h. higher_never_level w e f (h w p q) heights slopes) (λ h. higher_never_level w f e (h w q p) (sym heights) (sym slopes)) (one_is_higher w e f p q apart)

pub never_level : NeverLevel
never_level w e f n heights slopes = never_the_same w e f n.e_covers n.f_covers n.apart
    (level→same (left w e f) (right w e f) heights) (level→same (left_slope w e f) (right_slope w e f) slopes)
