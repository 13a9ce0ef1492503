-- The slab of a point begins at the last bound that is not east of it: the same edges cover both.
-- Assumes nothing.
use Rattle.std.proofs.Common.{◌≡◌, Bool, true, false, cond, not, ◌&&◌, List, [], ◌∷◌, ℤ, ◌≤ℤ◌, ◌<ℤ◌, Some, None, Option, sym, refl, ap, ◌∙◌, subst, ap₂, arith}
use lib.Signed.{lt_z, le_z}
use borrow.Author.Differences.{ints}
use Rattle.std.specs.List.{AllByRecursion}
use Rattle.std.proofs.ByRecursion.{all-has, All-weaker}
use Rattle.std.proofs.lemmas.Bool.{and_left, true≢false}
use Rattle.algebra.proofs.Order.{int_lt→<ℤ, int_lt_false→≤ℤ, <ℤ→int_lt, ≤ℤ→int_lt_false, int_le→≤ℤ, int_le_false→<ℤ, ≤ℤ→int_le, <ℤ→int_le_false, ≤ℤ-trans, ≤ℤ-<ℤ-trans, ≡→≤ℤ}
use Rattle.records.specs.declared.raw.EdgeRecord.{EdgeRecord}
use Rattle.records.specs.declared.raw.Point.{Point}
use Rattle.geometry.specs.Edge.{covers}
use Rattle.slabs.proofs.Pairwise.{Pairwise}
use Rattle.zone_figure.proofs.Finding.{over_last, Fails}
use Rattle.zone_figure.proofs.Descent.{is_east_of, west_of}
use Rattle.zone_figure.proofs.Bounds.{EndsIn}

-- no bound is between the west bound and the point
abbrev pub Agrees : ℤ → Option ℤ → List ℤ → Type 0
Agrees x None bounds = AllByRecursion (λ b. le_z b x ≡ false) bounds
Agrees x (Some west) bounds = (west ≤ℤ x) × AllByRecursion (λ b. le_z b x ≡ le_z b west) bounds

east_of_both : (west x b : ℤ) → west ≤ℤ x → x <ℤ b → le_z b x ≡ le_z b west
east_of_both west x b h k =
    <ℤ→int_le_false {a = b} {b = x} k ∙ sym (<ℤ→int_le_false {a = b} {b = west} (≤ℤ-<ℤ-trans h k))

west_of_both : (west x b : ℤ) → b ≤ℤ west → b ≤ℤ x → le_z b x ≡ le_z b west
west_of_both west x b h k = ≤ℤ→int_le {a = b} {b = x} k ∙ sym (≤ℤ→int_le {a = b} {b = west} h)

module _ (p : Point) where
  abbrev last : Option ℤ → List ℤ → Option ℤ
  last = over_last (is_east_of p) west_of

  -- once a bound is found, some bound not west of it is the last
  abbrev Later : ℤ → Option ℤ → List ℤ → Type 0
  Later from o bounds = (west : ℤ) × (o ≡ Some west) × (from ≤ℤ west) × (west ≤ℤ p.x) × AllByRecursion (λ b. le_z b p.x ≡ le_z b west) bounds

  later : (from : ℤ) (bounds : List ℤ) → from ≤ℤ p.x → AllByRecursion (λ b. from ≤ℤ b) bounds → Pairwise ◌≤ℤ◌ bounds → Later from (last (Some from) bounds) bounds
  later from [] h k r = (from, refl, ≡→≤ℤ refl, h, tt)
  later from (b ∷ bounds) h k r =
      by (lt_z p.x b) refl (λ east. later b bounds east r.0 r.1) (later from bounds h k.1 r.1)
    where
      by : (t : Bool) → lt_z p.x b ≡ t
          → (b ≤ℤ p.x → Later b (last (Some b) bounds) bounds)
          → Later from (last (Some from) bounds) bounds
          → Later from (last (cond (not t) (Some b) (Some from)) bounds) (b ∷ bounds)
      by true e there here =
          (here.0, here.1, here.2, here.3, (east_of_both here.0 p.x b here.3 (int_lt→<ℤ {a = p.x} {b = b} e), here.4))
      by false e there here =
          let east = int_lt_false→≤ℤ {a = p.x} {b = b} e in
          let found = there east in
          (found.0, found.1, ≤ℤ-trans k.0 found.2, found.3, (west_of_both found.0 p.x b found.2 east, found.4))

  agrees_from : (from : ℤ) (o : Option ℤ) (bounds : List ℤ) → Later from o bounds → Agrees p.x o bounds
  agrees_from from o bounds l = subst (λ z. Agrees p.x z bounds) (sym l.1) (l.3, l.4)

  agrees_west : (b : ℤ) (o : Option ℤ) (bounds : List ℤ) → p.x <ℤ b → Agrees p.x o bounds → Agrees p.x o (b ∷ bounds)
  agrees_west b None bounds k a = (<ℤ→int_le_false {a = b} {b = p.x} k, a)
  agrees_west b (Some west) bounds k a = (a.0, (east_of_both west p.x b a.0 k, a.1))

  pub west_agrees : (bounds : List ℤ) → Pairwise ◌≤ℤ◌ bounds → Agrees p.x (last None bounds) bounds
  west_agrees [] r = tt
  west_agrees (b ∷ bounds) r =
      by (lt_z p.x b) refl (λ east. later b bounds east r.0 r.1) (west_agrees bounds r.1)
    where
      by : (t : Bool) → lt_z p.x b ≡ t
          → (b ≤ℤ p.x → Later b (last (Some b) bounds) bounds)
          → Agrees p.x (last None bounds) bounds
          → Agrees p.x (last (cond (not t) (Some b) None) bounds) (b ∷ bounds)
      by true e there here = agrees_west b (last None bounds) bounds (int_lt→<ℤ {a = p.x} {b = b} e) here
      by false e there here =
          let east = int_lt_false→≤ℤ {a = p.x} {b = b} e in
          let found = there east in
          agrees_from b (last (Some b) bounds) (b ∷ bounds)
          (found.0, found.1, found.2, found.3, (west_of_both found.0 p.x b found.2 east, found.4))

  -- the point is not east of any bound after one that it is not east of
  pub east_fails : (bounds : List ℤ) → Pairwise ◌≤ℤ◌ bounds → Pairwise (Fails (is_east_of p) west_of) bounds
  east_fails [] r = tt
  east_fails (b ∷ bounds) r =
      (All-weaker (λ c. b ≤ℤ c) (Fails (is_east_of p) west_of b) (λ c h. fails (lt_z p.x b) refl c h) bounds r.0, east_fails bounds r.1)
    where
      fails : (t : Bool) → lt_z p.x b ≡ t → (c : ℤ) → b ≤ℤ c → not (lt_z p.x b) ≡ false → not (lt_z p.x c) ≡ false
      fails true e c h failed = ap not (<ℤ→int_lt {a = p.x} {b = c} (onward (int_lt→<ℤ {a = p.x} {b = b} e) h))
        where
          onward : p.x <ℤ b → b ≤ℤ c → p.x <ℤ c
          onward k l = omega (arith, ints)
      fails false e c h failed = absurd (true≢false (sym (ap not e) ∙ failed))

-- ---- the edges that cover the point's x
int_lt_not : (a b : ℤ) → lt_z a b ≡ not (le_z b a)
int_lt_not a b = by (le_z b a) refl
  where
    by : (t : Bool) → le_z b a ≡ t → lt_z a b ≡ not t
    by true e = ≤ℤ→int_lt_false {a = a} {b = b} (int_le→≤ℤ {a = b} {b = a} e)
    by false e = <ℤ→int_lt {a = a} {b = b} (int_le_false→<ℤ {a = b} {b = a} e)

abbrev pub CoveredAlike : ℤ → Option ℤ → EdgeRecord → Type 0
CoveredAlike x None e = covers e x ≡ false
CoveredAlike x (Some west) e = covers e x ≡ covers e west

pub covered_alike : (x : ℤ) (west : Option ℤ) (bounds : List ℤ) (e : EdgeRecord) → Agrees x west bounds → EndsIn bounds e → CoveredAlike x west e
covered_alike x None bounds e a h =
    and_left (le_z e.x1 x) (lt_z x e.x2) (all-has (λ b. le_z b x ≡ false) bounds e.x1 a h.0)
covered_alike x (Some west) bounds e a h =
    ap₂ ◌&&◌ (all-has (λ b. le_z b x ≡ le_z b west) bounds e.x1 a.1 h.0)
    (int_lt_not x e.x2 ∙ ap not (all-has (λ b. le_z b x ≡ le_z b west) bounds e.x2 a.1 h.1) ∙ sym (int_lt_not west e.x2))
