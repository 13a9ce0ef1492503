use Rattle.std.proofs.Common.{◌≡◌, ℤ, pos, ◌-ℤ◌, ◌*ℤ◌, ap}
use lib.Signed.{le_z}
use Rattle.records.specs.declared.coordinate.Coordinate.{Coordinate}
use Rattle.algebra.proofs.Range.{Reads, reads_difference, reads_product}
use Rattle.geometry.proofs.Parts.{again, fits, stored, given, offset_reads}
use Rattle.zone_chart.proofs.judging.is_above.Goals as goal

-- the product of two offsets, from what the calls gave back
product : (a b c d : Coordinate) (r s : ℤ) → r ≡ b.value -ℤ a.value → s ≡ d.value -ℤ c.value → Reads (again r *ℤ again s) ((b.value -ℤ a.value) *ℤ (d.value -ℤ c.value)) 1000000000000
product a b c d r s is-r is-s = reads_product (given is-r (offset_reads a b) tt) (given is-s (offset_reads c d) tt)

pub overflow_mul-rise : goal.overflow_mul-rise
overflow_mul-rise c =
    fits (product c.args.left.x c.args.right.x c.args.left.y c.args.point.y _ _ c.sub.ensures c.sub-2.ensures) tt

pub overflow_mul-climb : goal.overflow_mul-climb
overflow_mul-climb c =
    fits (product c.args.left.y c.args.right.y c.args.left.x c.args.point.x _ _ c.sub-3.ensures c.sub-4.ensures) tt

pub overflow_sub-result : goal.overflow_sub-result
overflow_sub-result c =
    let rise = product c.args.left.x c.args.right.x c.args.left.y c.args.point.y _ _ c.sub.ensures c.sub-2.ensures in
    let climb = product c.args.left.y c.args.right.y c.args.left.x c.args.point.x _ _ c.sub-3.ensures c.sub-4.ensures in
    fits (reads_difference (stored rise tt) (stored climb tt)) tt

pub returns : goal.returns
returns c =
    let rise = product c.args.left.x c.args.right.x c.args.left.y c.args.point.y _ _ c.sub.ensures c.sub-2.ensures in
    let climb = product c.args.left.y c.args.right.y c.args.left.x c.args.point.x _ _ c.sub-3.ensures c.sub-4.ensures in
    ap (le_z (pos 0)) (stored (reads_difference (stored rise tt) (stored climb tt)) tt).is
