-- The sizes of what the code computes from coordinates and from the parts of fractions.
use Rattle.std.proofs.Common.{◌≡◌, ℕ, suc, ◌<◌, T, ltb, ℤ, pos, negsuc, ◌-ℤ◌, ◌*ℤ◌, ◌≤ℤ◌, refl, ap, ◌∙◌, arith, ltb→lt, w32, w64, SFits, to_z, of_z}
use lib.Signed.{mag}
use Rattle.std.proofs.lemmas.Int.{ints, to_z-of_z}
use Rattle.records.specs.declared.coordinate.Coordinate.{Coordinate}
use Rattle.geometry.specs.declared.edge.Edge.{Edge}
use Rattle.geometry.specs.declared.fraction.Fraction.{Fraction}
use Rattle.geometry.specs.Fraction.{Ratio}
use Rattle.geometry.specs.Edge.{height}
use Rattle.geometry.specs.Held.{raw_of}
use Rattle.algebra.proofs.Range.{Reads, reads, reads_sum, reads_difference, reads_product, reads_fits, reads_back}

-- A value that a call gave back, as the code reads it again.
abbrev pub again : ℤ → ℤ
again z = to_z w64 (of_z w64 z)

-- A computed value fits 64 bits where its bound does, and is then read again as it was.
pub fits : {t z : ℤ} {m : ℕ} → Reads t z m → T (ltb m 9223372036854775808) → SFits w64 t
fits {m = m} p small = reads_fits w64 p (ltb→lt m 9223372036854775808 small)

pub stored : {t z : ℤ} {m : ℕ} → Reads t z m → T (ltb m 9223372036854775808) → Reads (again t) z m
stored {m = m} p small = reads_back w64 p (ltb→lt m 9223372036854775808 small)

-- What a call gave back is what it ensures, z.
pub given : {t s z : ℤ} {m : ℕ} → t ≡ s → Reads s z m → T (ltb m 9223372036854775808) → Reads (again t) z m
given e p small = stored (record { is = e ∙ p.is; within = p.within }) small

-- A coordinate that was read and widened.
pub widened : {wide value z : ℤ} → wide ≡ to_z w32 (of_z w32 value) → mag value < 2147483648 → value ≡ z → wide ≡ z
widened {value = value} is_IsWide fits-w32 is-value = is_IsWide ∙ to_z-of_z w32 value (record { sfits = fits-w32 }) ∙ is-value

pub least : {t z : ℤ} (m : ℕ) → Reads t z (suc m) → negsuc m ≤ℤ t
least m p = omega (arith, ints, p.is, p.within)

pub greatest : {t z : ℤ} {m : ℕ} → Reads t z m → t ≤ℤ pos m
greatest p = omega (arith, ints, p.is, p.within)

pub coordinate_reads : (x : Coordinate) → Reads x.value x.value 500000
coordinate_reads x = reads x.value (omega (arith, ints, x.least, x.greatest))

pub offset_reads : (a b : Coordinate) → Reads (b.value -ℤ a.value) (b.value -ℤ a.value) 1000000
offset_reads a b = reads_difference (coordinate_reads b) (coordinate_reads a)

-- The two products of a height's numerator, from what the calls gave back, and their sum.
pub base_reads : (e : Edge) (y width : ℤ) → y ≡ e.y1.value → width ≡ e.x2.value -ℤ e.x1.value → Reads (again y *ℤ again width) (e.y1.value *ℤ (e.x2.value -ℤ e.x1.value)) 500000000000
base_reads e y width is_y is-width =
    reads_product (given is_y (coordinate_reads e.y1) tt) (given is-width (offset_reads e.x1 e.x2) tt)

pub climb_reads : (e : Edge) (x : Coordinate) (climb run : ℤ) → climb ≡ e.y2.value -ℤ e.y1.value → run ≡ x.value -ℤ e.x1.value → Reads (again climb *ℤ again run) ((e.y2.value -ℤ e.y1.value) *ℤ (x.value -ℤ e.x1.value)) 1000000000000
climb_reads e x climb run is-climb is-run =
    reads_product (given is-climb (offset_reads e.y1 e.y2) tt) (given is-run (offset_reads e.x1 x) tt)

pub numerator_reads : (e : Edge) (x : Coordinate) → Reads (height (raw_of e) x.value).over (height (raw_of e) x.value).over 1500000000000
numerator_reads e x =
    reads_sum (reads_product (coordinate_reads e.y1) (offset_reads e.x1 e.x2)) (reads_product (offset_reads e.y1 e.y2) (offset_reads e.x1 x))

pub over_reads : (f : Fraction) → Reads f.over f.over 1500000000000
over_reads f = reads f.over (omega (arith, ints, f.over_least, f.over_greatest))

pub under_reads : (f : Fraction) → Reads f.under f.under 1000000
under_reads f = reads f.under (omega (arith, ints, f.positive, f.under_greatest))

-- A numerator times the other denominator.
pub product_reads : (f g : Fraction) → Reads (f.over *ℤ g.under) (f.over *ℤ g.under) 1500000000000000000
product_reads f g = reads_product (over_reads f) (under_reads g)

pub read_product_reads : (f g : Fraction) → Reads (again f.over *ℤ again g.under) (f.over *ℤ g.under) 1500000000000000000
read_product_reads f g = reads_product (given refl (over_reads f) tt) (given refl (under_reads g) tt)

pub same_ratio : {a b c d : ℤ} → a ≡ c → b ≡ d → ◌≡◌ {A = Ratio} (record { over = a; under = b }) (record { over = c; under = d })
same_ratio {b = b} {c = c} p q =
    ap (λ (x : ℤ). record { over = x; under = b }) p ∙ ap (λ (y : ℤ). record { over = c; under = y }) q
