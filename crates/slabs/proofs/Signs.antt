-- Tests of order, read as the signs of differences.
-- Assumes nothing.
use Rattle.std.proofs.Common.{◌≡◌, Bool, true, false, ◌&&◌, ◌||◌, ◌⊎◌, ℤ, pos, ◌-ℤ◌, neg_ℤ, ◌≤ℤ◌, ◌<ℤ◌, sym, refl, ap, ◌∙◌, ap₂, inl, inr, ⊎_elim, arith}
use mathlib.Core.Bool.{and_assoc, and_comm, or_assoc, or_comm}
use lib.Signed.{lt_z, le_z}
use borrow.Author.Differences.{ints}
use Rattle.std.proofs.lemmas.Bool.{both_ways, and_from, and_right, and_cases, or_left, or_right, or_from, or_parts}
use Rattle.algebra.proofs.Order.{<ℤ→int_lt, int_lt→<ℤ, ≤ℤ→int_lt_false, int_lt_false→≤ℤ, ≤ℤ→int_le, int_le→≤ℤ, <ℤ→int_le_false, int_le_false→<ℤ, <ℤ→≤ℤ, ≡→≤ℤ, <ℤ→0<, 0<→<ℤ, 0≤→≤ℤ, negℤ_mono_<, negℤ_mono_≤, trichotomy, sign_cases}
use Rattle.algebra.proofs.Ring.{minus_zero→same, same→minus_zero}
use Rattle.geometry.specs.Conflict.{touch_or_cross}

-- d is positive, or it is zero and s is positive
abbrev pub Above : ℤ → ℤ → Type 0
Above d s = (pos 0 <ℤ d) ⊎ ((d ≡ pos 0) × (pos 0 <ℤ s))

-- the same, or both are zero
abbrev pub AtLeast : ℤ → ℤ → Type 0
AtLeast d s = (pos 0 <ℤ d) ⊎ ((d ≡ pos 0) × (pos 0 ≤ℤ s))

pub above→at_least : {d s : ℤ} → Above d s → AtLeast d s
above→at_least = ⊎_elim inl (λ h. inr (h.0, <ℤ→≤ℤ h.1))

pub zero→at_least : {d s : ℤ} → d ≡ pos 0 → s ≡ pos 0 → AtLeast d s
zero→at_least p q = inr (p, ≡→≤ℤ (sym q))

pub never_both : {d s : ℤ} → Above d s → d ≡ pos 0 → s ≡ pos 0 → ⊥
never_both {d} {s} a p q = ⊎_elim (λ h. omega (arith, ints)) (λ h. let k = h.1 in omega (arith, ints)) a

-- ---- a against b, and where they are equal c against d
abbrev pub before : ℤ → ℤ → ℤ → ℤ → Bool
before a b c d = lt_z a b || (le_z a b && le_z b a) && lt_z c d

pub above→before : (a b c d : ℤ) → Above (b -ℤ a) (d -ℤ c) → before a b c d ≡ true
above→before a b c d = ⊎_elim
    (λ h. or_left (lt_z a b) ((le_z a b && le_z b a) && lt_z c d) (<ℤ→int_lt (0<→<ℤ {a = a} {b = b} h)))
    (λ h. let e = minus_zero→same b a h.0 in
    or_right (lt_z a b) ((le_z a b && le_z b a) && lt_z c d)
    (and_from (le_z a b && le_z b a) (lt_z c d) (and_from (le_z a b) (le_z b a) (≤ℤ→int_le (≡→≤ℤ (sym e))) (≤ℤ→int_le (≡→≤ℤ e))) (<ℤ→int_lt (0<→<ℤ {a = c} {b = d} h.1))))

pub at_least→not_before : (a b c d : ℤ) → AtLeast (a -ℤ b) (c -ℤ d) → before a b c d ≡ false
at_least→not_before a b c d = ⊎_elim
    (λ h. let l = 0<→<ℤ {a = b} {b = a} h in later (<ℤ→≤ℤ l) (ap (λ t. (t && le_z b a) && lt_z c d) (<ℤ→int_le_false l)))
    (λ h. later (≡→≤ℤ (sym (minus_zero→same a b h.0))) (and_right (le_z a b && le_z b a) (lt_z c d) (≤ℤ→int_lt_false (0≤→≤ℤ {a = d} {b = c} h.1))))
  where
    later : b ≤ℤ a → ((le_z a b && le_z b a) && lt_z c d) ≡ false → before a b c d ≡ false
    later h = or_from (lt_z a b) ((le_z a b && le_z b a) && lt_z c d) (≤ℤ→int_lt_false h)

pub one_of_three : (a b c d : ℤ) → Above (b -ℤ a) (d -ℤ c) ⊎ (Above (a -ℤ b) (c -ℤ d) ⊎ ((a ≡ b) × (c ≡ d)))
one_of_three a b c d = ⊎_elim (λ h. inl (inl (<ℤ→0< h))) (⊎_elim level (λ h. inr (inl (inl (<ℤ→0< h))))) (trichotomy a b)
  where
    level : a ≡ b → Above (b -ℤ a) (d -ℤ c) ⊎ (Above (a -ℤ b) (c -ℤ d) ⊎ ((a ≡ b) × (c ≡ d)))
    level e = ⊎_elim (λ h. inl (inr (same→minus_zero b a (sym e), <ℤ→0< h))) (⊎_elim (λ s. inr (inr (e, s))) (λ h. inr (inl (inr (same→minus_zero a b e, <ℤ→0< h))))) (trichotomy c d)

above_or_at_least : (a b c d : ℤ) → Above (b -ℤ a) (d -ℤ c) ⊎ AtLeast (a -ℤ b) (c -ℤ d)
above_or_at_least a b c d = ⊎_elim inl (λ h. inr (⊎_elim (λ k. above→at_least k) (λ k. zero→at_least (same→minus_zero a b k.0) (same→minus_zero c d k.1)) h)) (one_of_three a b c d)

pub before→above : (a b c d : ℤ) → before a b c d ≡ true → Above (b -ℤ a) (d -ℤ c)
before→above a b c d t = ⊎_elim (λ h. h) (λ h. absurd (both_ways (before a b c d) (at_least→not_before a b c d h) t)) (above_or_at_least a b c d)

pub not_before→at_least : (a b c d : ℤ) → before a b c d ≡ false → AtLeast (a -ℤ b) (c -ℤ d)
not_before→at_least a b c d t = ⊎_elim (λ h. absurd (both_ways (before a b c d) t (above→before a b c d h))) (λ h. h) (above_or_at_least a b c d)

-- ---- a difference that neither vanishes at both ends nor changes its sign
abbrev pub Rises : ℤ → ℤ → Type 0
Rises a b = ((pos 0 <ℤ a) × (pos 0 ≤ℤ b)) ⊎ ((a ≡ pos 0) × (pos 0 <ℤ b))

abbrev zeros : ℤ → ℤ → Bool
zeros a b = le_z a (pos 0) && le_z (pos 0) a && le_z b (pos 0) && le_z (pos 0) b

zeros_are : {a b : ℤ} → a ≡ pos 0 → b ≡ pos 0 → zeros a b ≡ true
zeros_are e k = ap₂ zeros e k

-- what is not strictly on the other side
not_opposite : (a b c d : ℤ) → (lt_z a b && lt_z c d) ≡ false → a <ℤ b → d ≤ℤ c
not_opposite a b c d t h = ⊎_elim (λ u. absurd (both_ways (lt_z a b) u (<ℤ→int_lt h))) int_lt_false→≤ℤ (and_cases (lt_z a b) (lt_z c d) t)

pub one_side : (a b : ℤ) → touch_or_cross a b ≡ false → Rises a b ⊎ Rises (neg_ℤ a) (neg_ℤ b)
one_side a b t =
    ⊎_elim (λ h. inr (inl (negℤ_mono_< h, negℤ_mono_≤ (not_opposite a (pos 0) (pos 0) b front.1 h))))
    (⊎_elim level (λ h. inl (inl (h, not_opposite (pos 0) a b (pos 0) parts.1 h))))
    (sign_cases a)
  where
    parts : ((zeros a b || lt_z a (pos 0) && lt_z (pos 0) b) ≡ false) × ((lt_z (pos 0) a && lt_z b (pos 0)) ≡ false)
    parts = or_parts (zeros a b || lt_z a (pos 0) && lt_z (pos 0) b) (lt_z (pos 0) a && lt_z b (pos 0)) t

    front : (zeros a b ≡ false) × ((lt_z a (pos 0) && lt_z (pos 0) b) ≡ false)
    front = or_parts (zeros a b) (lt_z a (pos 0) && lt_z (pos 0) b) parts.0

    level : a ≡ pos 0 → Rises a b ⊎ Rises (neg_ℤ a) (neg_ℤ b)
    level e = ⊎_elim (λ h. inr (inr (ap neg_ℤ e, negℤ_mono_< h)))
        (⊎_elim (λ k. absurd (both_ways (zeros a b) front.0 (zeros_are e k))) (λ h. inl (inr (e, h)))) (sign_cases b)

-- ---- turned upside down
int_le_turned : (a b : ℤ) → le_z (neg_ℤ a) (neg_ℤ b) ≡ le_z b a
int_le_turned a b = by (le_z b a) refl
  where
    by : (t : Bool) → le_z b a ≡ t → le_z (neg_ℤ a) (neg_ℤ b) ≡ t
    by true e = ≤ℤ→int_le (negℤ_mono_≤ (int_le→≤ℤ {a = b} {b = a} e))
    by false e = <ℤ→int_le_false (negℤ_mono_< (int_le_false→<ℤ {a = b} {b = a} e))

int_lt_turned : (a b : ℤ) → lt_z (neg_ℤ a) (neg_ℤ b) ≡ lt_z b a
int_lt_turned a b = by (lt_z b a) refl
  where
    by : (t : Bool) → lt_z b a ≡ t → lt_z (neg_ℤ a) (neg_ℤ b) ≡ t
    by true e = <ℤ→int_lt (negℤ_mono_< (int_lt→<ℤ {a = b} {b = a} e))
    by false e = ≤ℤ→int_lt_false (negℤ_mono_≤ (int_lt_false→≤ℤ {a = b} {b = a} e))

abbrev tests : Bool → Bool → Bool → Bool → Bool → Bool → Bool → Bool → Bool
tests a a' b b' below above' above below' = a && a' && b && b' || below && above' || above && below'

-- the tests of a touch or a crossing in the other order
tests_turned : (a a' b b' below above' above below' : Bool) → tests a' a b' b above below' below above' ≡ tests a a' b b' below above' above below'
tests_turned a a' b b' below above' above below' =
    ap (λ t. t || above && below' || below && above') (and_assoc (a' && a) b' b ∙ ap₂ ◌&&◌ (and_comm a' a) (and_comm b' b) ∙ sym (and_assoc (a && a') b b'))
    ∙ or_assoc touch (above && below') (below && above') ∙ ap (λ t. touch || t) (or_comm (above && below') (below && above')) ∙ sym (or_assoc touch (below && above') (above && below'))
  where
    touch : Bool
    touch = a && a' && b && b'

pub touch_or_cross_turned : (a b : ℤ) → touch_or_cross (neg_ℤ a) (neg_ℤ b) ≡ touch_or_cross a b
touch_or_cross_turned a b =
    (λ i. tests (int_le_turned a (pos 0) i) (int_le_turned (pos 0) a i) (int_le_turned b (pos 0) i) (int_le_turned (pos 0) b i) (int_lt_turned a (pos 0) i) (int_lt_turned (pos 0) b i) (int_lt_turned (pos 0) a i) (int_lt_turned b (pos 0) i))
    ∙ tests_turned (le_z a (pos 0)) (le_z (pos 0) a) (le_z b (pos 0)) (le_z (pos 0) b) (lt_z a (pos 0)) (lt_z (pos 0) b) (lt_z (pos 0) a) (lt_z b (pos 0))
