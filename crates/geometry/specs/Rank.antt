-- The order in which edges are listed from below at an x: by height there, then by slope, then by number.
use Rattle.std.specs.Prelude.{◌≡◌, Bool, true, false, not, ◌&&◌, ◌||◌, ℤ, pos, ◌<ℤ◌, ◌≢◌, int_le}
use Rattle.records.specs.declared.raw.EdgeRecord.{EdgeRecord}
use Rattle.geometry.specs.declared.crossing.Crossing.{Crossing}
use Rattle.geometry.specs.Fraction.{Ratio, less, at_most, level}
use Rattle.geometry.specs.Edge.{height, slope, lies_under}
use Rattle.geometry.specs.Held.{raw_of}

pub record Rank : Type 0 where
  pub height : Ratio
  pub slope : Ratio
  pub number : ℤ

abbrev pub rank_at : ℤ → EdgeRecord → Rank
rank_at x e = record { height = height e x; slope = slope e; number = e.number }

abbrev pub slope_at_most : Rank → Rank → Bool
slope_at_most p q = less p.slope q.slope || level p.slope q.slope && int_le p.number q.number

abbrev pub rank_at_most : Rank → Rank → Bool
rank_at_most p q = less p.height q.height || level p.height q.height && slope_at_most p q

-- A crossing is an edge at an x.
abbrev pub rank_of : Crossing → Rank
rank_of p = rank_at p.x.value (raw_of p.edge)

abbrev pub crossing_at_most : Crossing → Crossing → Bool
crossing_at_most p q = rank_at_most (rank_of p) (rank_of q)

-- Fractions are totally ordered, those with a positive denominator transitively, and less is the denial of the order turned round.
pub record FractionsAreOrdered : Type 0 where
  pub total : (p q : Ratio) → at_most p q ≡ false → at_most q p ≡ true
  pub transitive : (p q r : Ratio) → pos 0 <ℤ p.under → pos 0 <ℤ q.under → pos 0 <ℤ r.under → at_most p q ≡ true → at_most q r ≡ true → at_most p r ≡ true
  pub strict : (p q : Ratio) → less p q ≡ not (at_most q p)

-- So are crossings, and two that are at most each other are of edges with one number.
pub record CrossingsAreOrdered : Type 0 where
  pub total : (p q : Crossing) → crossing_at_most p q ≡ false → crossing_at_most q p ≡ true
  pub transitive : (p q r : Crossing) → crossing_at_most p q ≡ true → crossing_at_most q r ≡ true → crossing_at_most p r ≡ true
  pub ties : (p q : Crossing) → crossing_at_most p q ≡ true → crossing_at_most q p ≡ true → p.edge.number.value ≡ q.edge.number.value

-- Lying under is transitive, never mutual, and is that order where heights and slopes do not both agree.
pub record LyingUnderIsOrdered : Type 0 where
  pub transitive : (x : ℤ) (e f g : EdgeRecord) → e.x1 <ℤ e.x2 → f.x1 <ℤ f.x2 → g.x1 <ℤ g.x2 → lies_under x e f ≡ true → lies_under x f g ≡ true → lies_under x e g ≡ true
  pub asymmetric : (x : ℤ) (e f : EdgeRecord) → lies_under x e f ≡ true → lies_under x f e ≢ true
  pub listed : (x : ℤ) (e f : EdgeRecord) → lies_under x e f ≡ true → rank_at_most (rank_at x e) (rank_at x f) ≡ true
  pub from_listed : (x : ℤ) (e f : EdgeRecord) → (level (height e x) (height f x) ≡ true → level (slope e) (slope f) ≢ true) → rank_at_most (rank_at x e) (rank_at x f) ≡ true → lies_under x e f ≡ true
