-- Going down a slab's edges finds the zone of the point.
-- Assumes nothing.
use Rattle.std.proofs.Common.{◌≡◌, Bool, true, false, cond, ◌&&◌, List, [], ◌∷◌, ℤ, pos, ◌-ℤ◌, ◌*ℤ◌, ◌≤ℤ◌, ◌<ℤ◌, Some, None, Option, sym, refl, ap, ◌∙◌, subst, arith}
use lib.Signed.{le_z}
use borrow.Author.Differences.{ints}
use Rattle.std.specs.List.{AllByRecursion}
use Rattle.std.proofs.lemmas.Bool.{both_ways, cond-true, cond-false}
use Rattle.algebra.specs.Expressions.{unknown, number, ◌⊕◌, ◌⊖◌, ◌⊗◌}
use Rattle.algebra.proofs.Identity.{ring}
use Rattle.algebra.proofs.Order.{int_le→≤ℤ, int_le_false→<ℤ, ≤ℤ→int_le, <ℤ→int_le_false, ≤ℤ→0≤}
use Rattle.records.specs.declared.raw.EdgeRecord.{EdgeRecord}
use Rattle.records.specs.declared.raw.Point.{Point}
use Rattle.geometry.specs.Fraction.{whole, at_most}
use Rattle.geometry.specs.Edge.{covers, height, lies_under}
use Rattle.slabs.specs.Topmost.{is_under, under, higher, highest, zone_above, zone_at, Wide}
use Rattle.slabs.proofs.Lower.{lower_is_under}
use Rattle.slabs.proofs.Pairwise.{Pairwise}
use Rattle.slabs.proofs.Ranking.{never_under_each_other}
use Rattle.zone_figure.proofs.Finding.{over_last, Fails}
use Rattle.zone_figure.proofs.Descent.{is_over, zone_over}
use Rattle.zone_figure.proofs.FromBelow.{Under, AllCover}

int_le_shifted : (a b d : ℤ) → b -ℤ a ≡ d → le_z a b ≡ le_z (pos 0) d
int_le_shifted a b d q = by (le_z a b) refl
  where
    by : (t : Bool) → le_z a b ≡ t → le_z a b ≡ le_z (pos 0) d
    by true e = e ∙ sym (≤ℤ→int_le {a = pos 0} {b = d} (subst (λ z. pos 0 ≤ℤ z) q (≤ℤ→0≤ (int_le→≤ℤ {a = a} {b = b} e))))
    by false e = e ∙ sym (<ℤ→int_le_false {a = pos 0} {b = d} (below (int_le_false→<ℤ {a = a} {b = b} e)))
      where
        below : b <ℤ a → d <ℤ pos 0
        below l = omega (arith, ints)

-- the point is over an edge that covers its x exactly if the edge is under it
over_is_under : (p : Point) (e : EdgeRecord) → covers e p.x ≡ true → is_under p.x p.y e ≡ is_over p e
over_is_under p e c =
    ap (λ t. t && at_most (height e p.x) (whole p.y)) c
    ∙ int_le_shifted ((height e p.x).over *ℤ pos 1) (p.y *ℤ (e.x2 -ℤ e.x1)) (((e.x2 -ℤ e.x1) *ℤ (p.y -ℤ e.y1)) -ℤ ((e.y2 -ℤ e.y1) *ℤ (p.x -ℤ e.x1)))
    (let x1 = unknown 0 in
    let y1 = unknown 1 in
    let x2 = unknown 2 in
    let y2 = unknown 3 in
    let px = unknown 4 in
    let py = unknown 5 in
    ring (e.x1 ∷ e.y1 ∷ e.x2 ∷ e.y2 ∷ p.x ∷ p.y ∷ [])
    (py ⊗ (x2 ⊖ x1) ⊖ (y1 ⊗ (x2 ⊖ x1) ⊕ (y2 ⊖ y1) ⊗ (px ⊖ x1)) ⊗ number (pos 1))
    ((x2 ⊖ x1) ⊗ (py ⊖ y1) ⊖ (y2 ⊖ y1) ⊗ (px ⊖ x1)) refl)

-- the best so far lies under all that follow
abbrev BestUnder : ℤ → Option EdgeRecord → List EdgeRecord → Type 0
BestUnder x None edges = Unit {0}
BestUnder x (Some best) edges = AllByRecursion (Under x best) edges

module _ (p : Point) where
  higher_is : (best : Option EdgeRecord) (e : EdgeRecord) (edges : List EdgeRecord) → BestUnder p.x best (e ∷ edges) → higher p.x best e ≡ Some e
  higher_is None e edges b = refl
  higher_is (Some best) e edges b = ap Some (cond-true (lies_under p.x best e) e best b.0)

  best_later : (best : Option EdgeRecord) (e : EdgeRecord) (edges : List EdgeRecord) → BestUnder p.x best (e ∷ edges) → BestUnder p.x best edges
  best_later None e edges b = tt
  best_later (Some best) e edges b = b.1

  by_turns : (best : Option EdgeRecord) (edges : List EdgeRecord) → BestUnder p.x best edges → Pairwise (Under p.x) edges → AllCover p.x edges
      → over_last (is_over p) zone_over (zone_above best) edges ≡ zone_above (highest p.x best (under p.x p.y edges))
  by_turns best [] b h c = refl
  by_turns best (e ∷ edges) b h c =
      by (is_under p.x p.y e) refl (by_turns (Some e) edges h.0 h.1 c.1) (by_turns best edges (best_later best e edges b) h.1 c.1)
    where
      by : (t : Bool) → is_under p.x p.y e ≡ t
          → over_last (is_over p) zone_over e.zone edges ≡ zone_above (highest p.x (Some e) (under p.x p.y edges))
          → over_last (is_over p) zone_over (zone_above best) edges ≡ zone_above (highest p.x best (under p.x p.y edges))
          → over_last (is_over p) zone_over (cond (is_over p e) e.zone (zone_above best)) edges ≡ zone_above (highest p.x best (cond (is_under p.x p.y e) (e ∷ under p.x p.y edges) (under p.x p.y edges)))
      by true t up down =
          ap (λ z. over_last (is_over p) zone_over z edges) (cond-true (is_over p e) e.zone (zone_above best) (sym (over_is_under p e c.0) ∙ t))
          ∙ up
          ∙ ap (λ o. zone_above (highest p.x o (under p.x p.y edges))) (sym (higher_is best e edges b))
          ∙ ap (λ l. zone_above (highest p.x best l)) (sym (cond-true (is_under p.x p.y e) (e ∷ under p.x p.y edges) (under p.x p.y edges) t))
      by false t up down =
          ap (λ z. over_last (is_over p) zone_over z edges) (cond-false (is_over p e) e.zone (zone_above best) (sym (over_is_under p e c.0) ∙ t))
          ∙ down
          ∙ ap (λ l. zone_above (highest p.x best l)) (sym (cond-false (is_under p.x p.y e) (e ∷ under p.x p.y edges) (under p.x p.y edges) t))

  pub zone_by_turns : (edges : List EdgeRecord) → Pairwise (Under p.x) edges → AllCover p.x edges → over_last (is_over p) zone_over (pos 0) edges ≡ zone_at edges p.x p.y
  zone_by_turns edges h c = by_turns None edges tt h c

  -- no edge is under the point after one that is not
  pub fails_after : (edges : List EdgeRecord) → AllByRecursion Wide edges → AllCover p.x edges → Pairwise (Under p.x) edges → Pairwise (Fails (is_over p) zone_over) edges
  fails_after [] w c h = tt
  fails_after (e ∷ edges) w c h = (from edges w.1 c.1 h.0, fails_after edges w.1 c.1 h.1)
    where
      fails : (f : EdgeRecord) → Wide f → covers f p.x ≡ true → Under p.x e f → is_over p e ≡ false → is_over p f ≡ false
      fails f wf cf u failed = by (is_over p f) refl
        where
          by : (t : Bool) → is_over p f ≡ t → is_over p f ≡ false
          by false q = q
          by true q =
              absurd (both_ways (is_over p e) failed (sym (over_is_under p e c.0) ∙ lower_is_under p.x p.y f e wf w.0 c.0 (never_under_each_other p.x e f u) (over_is_under p f cf ∙ q)))

      from : (rest : List EdgeRecord) → AllByRecursion Wide rest → AllCover p.x rest → AllByRecursion (Under p.x e) rest → AllByRecursion (Fails (is_over p) zone_over e) rest
      from [] wr cr hr = tt
      from (f ∷ rest) wr cr hr = (fails f wr.0 cr.0 hr.0, from rest wr.1 cr.1 hr.1)
