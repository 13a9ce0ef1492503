-- The order of ranks and of crossings.
use Rattle.std.specs.Prelude.{◌≡◌, Bool, true, false, ◌&&◌, ◌||◌, pos, ◌<ℤ◌, int_le}
use Rattle.std.proofs.Common.{sym, ap, ◌∙◌, arith}
use Rattle.std.proofs.lemmas.Int.{ints}
use Rattle.algebra.proofs.Order.{int_le→≤ℤ, ≤ℤ-antisym, <ℤ→0<}
use Rattle.geometry.specs.declared.crossing.Crossing.{Crossing}
use Rattle.geometry.specs.Fraction.{Ratio, less, at_most, level}
use Rattle.geometry.specs.Rank.{Rank, rank_of, slope_at_most, rank_at_most, CrossingsAreOrdered}
use Rattle.geometry.specs.FractionOrder.{int_le_total, int_le_transitive, at_most_total, at_most_transitive, less_is}
use Rattle.geometry.specs.Lexicographic.{in_turn, Three, turn_total, turn_transitive, turn_ties}

-- By a fraction, and where it ties by the rest.
pub in_turn_lem : (p q : Ratio) (rest : Bool) → (less p q || level p q && rest) ≡ in_turn (at_most p q) (at_most q p) rest
in_turn_lem p q rest = ap (λ (t : Bool). t || level p q && rest) (less_is p q)

pub three : (p q r : Ratio) → pos 0 <ℤ p.under → pos 0 <ℤ q.under → pos 0 <ℤ r.under → Three (at_most p q) (at_most q p) (at_most q r) (at_most r q) (at_most p r) (at_most r p)
three p q r a b c =
    record {
      xy_total = at_most_total q p;
      yz_total = at_most_total r q;
      onward = at_most_transitive p q r a b c;
      tied_yx = at_most_transitive q r p b c a;
      tied_zy = at_most_transitive r p q c a b;
    }

-- Both fractions of a rank have a positive denominator.
pub record Sound (p : Rank) : Type 0 where
  pub height : pos 0 <ℤ p.height.under
  pub slope : pos 0 <ℤ p.slope.under

slope_total : (p q : Rank) → slope_at_most p q ≡ false → slope_at_most q p ≡ true
slope_total p q h =
    in_turn_lem q.slope p.slope _
    ∙ turn_total (at_most p.slope q.slope) (at_most q.slope p.slope) (int_le p.number q.number) (int_le q.number p.number) (int_le_total p.number q.number) (sym (in_turn_lem p.slope q.slope _) ∙ h)

pub rank_total : (p q : Rank) → rank_at_most p q ≡ false → rank_at_most q p ≡ true
rank_total p q h =
    in_turn_lem q.height p.height _
    ∙ turn_total (at_most p.height q.height) (at_most q.height p.height) (slope_at_most p q) (slope_at_most q p) (slope_total p q) (sym (in_turn_lem p.height q.height _) ∙ h)

slope_transitive : (p q r : Rank) → Sound p → Sound q → Sound r → slope_at_most p q ≡ true → slope_at_most q r ≡ true → slope_at_most p r ≡ true
slope_transitive p q r a b c h k =
    in_turn_lem p.slope r.slope _
    ∙ turn_transitive _ _ _ _ _ _ (int_le p.number q.number) (int_le q.number r.number) (int_le p.number r.number) (three p.slope q.slope r.slope a.slope b.slope c.slope) (int_le_transitive p.number q.number r.number) (sym (in_turn_lem p.slope q.slope _) ∙ h) (sym (in_turn_lem q.slope r.slope _) ∙ k)

pub rank_transitive : (p q r : Rank) → Sound p → Sound q → Sound r → rank_at_most p q ≡ true → rank_at_most q r ≡ true → rank_at_most p r ≡ true
rank_transitive p q r a b c h k =
    in_turn_lem p.height r.height _
    ∙ turn_transitive _ _ _ _ _ _ (slope_at_most p q) (slope_at_most q r) (slope_at_most p r) (three p.height q.height r.height a.height b.height c.height) (slope_transitive p q r a b c) (sym (in_turn_lem p.height q.height _) ∙ h) (sym (in_turn_lem q.height r.height _) ∙ k)

pub rank_ties : (p q : Rank) → rank_at_most p q ≡ true → rank_at_most q p ≡ true → p.number ≡ q.number
rank_ties p q h k =
    let slopes = turn_ties (at_most p.height q.height) (at_most q.height p.height) (slope_at_most p q) (slope_at_most q p) (at_most_total q.height p.height) (at_most_total p.height q.height) (sym (in_turn_lem p.height q.height _) ∙ h) (sym (in_turn_lem q.height p.height _) ∙ k) in
    let numbers = turn_ties (at_most p.slope q.slope) (at_most q.slope p.slope) (int_le p.number q.number) (int_le q.number p.number) (at_most_total q.slope p.slope) (at_most_total p.slope q.slope) (sym (in_turn_lem p.slope q.slope _) ∙ slopes.0) (sym (in_turn_lem q.slope p.slope _) ∙ slopes.1) in
    ≤ℤ-antisym (int_le→≤ℤ {a = p.number} {b = q.number} numbers.0) (int_le→≤ℤ {a = q.number} {b = p.number} numbers.1)

pub sound : (p : Crossing) → Sound (rank_of p)
sound p = record { height = <ℤ→0< p.edge.west_to_east; slope = <ℤ→0< p.edge.west_to_east }

pub crossings_are_ordered_lem : CrossingsAreOrdered
crossings_are_ordered_lem =
    record {
      total = λ p q. rank_total (rank_of p) (rank_of q);
      transitive = λ p q r. rank_transitive (rank_of p) (rank_of q) (rank_of r) (sound p) (sound q) (sound r);
      ties = λ p q h k. let e = rank_ties (rank_of p) (rank_of q) h k in omega (arith, ints);
    }
