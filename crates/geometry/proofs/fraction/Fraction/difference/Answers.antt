use Rattle.algebra.proofs.Range.{reads_difference}
use Rattle.geometry.proofs.Parts.{fits, stored, given, product_reads}
use Rattle.geometry.proofs.fraction.Fraction.difference.Goals as goal

pub overflow_sub-result : goal.overflow_sub-result
overflow_sub-result c =
    let one = given c.scaled.ensures (product_reads c.args.self c.args.other) tt in
    let other = given c.scaled-2.ensures (product_reads c.args.other c.args.self) tt in
    fits (reads_difference one other) tt

pub returns : goal.returns
returns c =
    let one = given c.scaled.ensures (product_reads c.args.self c.args.other) tt in
    let other = given c.scaled-2.ensures (product_reads c.args.other c.args.self) tt in
    (stored (reads_difference one other) tt).is
