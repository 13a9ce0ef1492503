-- Lying under is transitive and never mutual, and is the order of ranks where heights and slopes do not both agree.
use Rattle.std.proofs.Common.{◌≡◌, Bool, true, false, ◌&&◌, ◌||◌, ℤ, pos, ◌<ℤ◌, sym, refl, ◌∙◌}
use Rattle.std.proofs.lemmas.Bool.{and_parts, both_ways, not-true, not_from_false}
use Rattle.algebra.proofs.Order.{<ℤ→0<}
use Rattle.records.specs.declared.raw.EdgeRecord.{EdgeRecord}
use Rattle.geometry.specs.Fraction.{Ratio, less, at_most, level}
use Rattle.geometry.specs.Edge.{height, slope, lies_under}
use Rattle.geometry.specs.Rank.{rank_at, rank_at_most, LyingUnderIsOrdered}
use Rattle.geometry.specs.FractionOrder.{at_most_total, at_most_transitive, less_is}
use Rattle.geometry.specs.Lexicographic.{turn_transitive, turn_ties}
use Rattle.geometry.specs.RankOrder.{in_turn_lem, three}

above : (p q : Ratio) → less p q ≡ true → at_most q p ≡ false
above p q h = not-true (at_most q p) (sym (less_is p q) ∙ h)

pub less_transitive : (p q r : Ratio) → pos 0 <ℤ p.under → pos 0 <ℤ q.under → pos 0 <ℤ r.under → less p q ≡ true → less q r ≡ true → less p r ≡ true
less_transitive p q r a b c h k = by_test (at_most r p) refl
  where
    by_test : (t : Bool) → at_most r p ≡ t → less p r ≡ true
    by_test false e = less_is p r ∙ not_from_false (at_most r p) e
    by_test true e = absurd (both_ways (at_most q p) (above p q h) (at_most_transitive q r p b c a (at_most_total r q (above q r k)) e))

pub less_asymmetric : (p q : Ratio) → less p q ≡ true → less q p ≡ true → ⊥
less_asymmetric p q h k = both_ways (at_most p q) (above q p k) (at_most_total q p (above p q h))

pub lies_under_transitive : (x : ℤ) (e f g : EdgeRecord) → e.x1 <ℤ e.x2 → f.x1 <ℤ f.x2 → g.x1 <ℤ g.x2 → lies_under x e f ≡ true → lies_under x f g ≡ true → lies_under x e g ≡ true
lies_under_transitive x e f g e-wide f-wide g-wide h k =
    in_turn_lem (height e x) (height g x) _
    ∙ turn_transitive _ _ _ _ _ _ (less (slope e) (slope f)) (less (slope f) (slope g)) (less (slope e) (slope g)) (three (height e x) (height f x) (height g x) (<ℤ→0< e-wide) (<ℤ→0< f-wide) (<ℤ→0< g-wide)) (less_transitive (slope e) (slope f) (slope g) (<ℤ→0< e-wide) (<ℤ→0< f-wide) (<ℤ→0< g-wide)) (sym (in_turn_lem (height e x) (height f x) _) ∙ h) (sym (in_turn_lem (height f x) (height g x) _) ∙ k)

pub lies_under_asymmetric : (x : ℤ) (e f : EdgeRecord) → lies_under x e f ≡ true → lies_under x f e ≡ true → ⊥
lies_under_asymmetric x e f h k =
    let slopes = turn_ties (at_most (height e x) (height f x)) (at_most (height f x) (height e x)) (less (slope e) (slope f)) (less (slope f) (slope e)) (at_most_total (height f x) (height e x)) (at_most_total (height e x) (height f x)) (sym (in_turn_lem (height e x) (height f x) _) ∙ h) (sym (in_turn_lem (height f x) (height e x) _) ∙ k) in
    less_asymmetric (slope e) (slope f) slopes.0 slopes.1

widened : (lower even less-steep rest : Bool) → (lower || even && less-steep) ≡ true → (lower || even && (less-steep || rest)) ≡ true
widened true even less-steep rest e = refl
widened false false less-steep rest e = e
widened false true true rest e = refl
widened false true false rest e = absurd (both_ways false refl e)

pub lies_under→listed : (x : ℤ) (e f : EdgeRecord) → lies_under x e f ≡ true → rank_at_most (rank_at x e) (rank_at x f) ≡ true
lies_under→listed x e f h = widened (less (height e x) (height f x)) (level (height e x) (height f x)) (less (slope e) (slope f)) _ h

narrowed : (lower even less-steep as-steep rest : Bool) → (even ≡ true → as-steep ≡ true → ⊥) → (lower || even && (less-steep || as-steep && rest)) ≡ true → (lower || even && less-steep) ≡ true
narrowed true even less-steep as-steep rest apart e = refl
narrowed false false less-steep as-steep rest apart e = e
narrowed false true true as-steep rest apart e = refl
narrowed false true false as-steep rest apart e = absurd (apart refl (and_parts as-steep rest e).0)

pub listed→lies_under : (x : ℤ) (e f : EdgeRecord) → (level (height e x) (height f x) ≡ true → level (slope e) (slope f) ≡ true → ⊥) → rank_at_most (rank_at x e) (rank_at x f) ≡ true → lies_under x e f ≡ true
listed→lies_under x e f apart h =
    narrowed (less (height e x) (height f x)) (level (height e x) (height f x)) (less (slope e) (slope f)) (level (slope e) (slope f)) _ apart h

pub lying_under_is_ordered_lem : LyingUnderIsOrdered
lying_under_is_ordered_lem =
    record {
      transitive = lies_under_transitive;
      asymmetric = lies_under_asymmetric;
      listed = lies_under→listed;
      from_listed = listed→lies_under;
    }
