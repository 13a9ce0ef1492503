use Rattle.std.proofs.Common.{◌∙◌, arith}
use Rattle.std.proofs.lemmas.Int.{ints}
use Rattle.geometry.proofs.Parts.{given, least, greatest, numerator_reads, offset_reads, same_ratio}
use Rattle.geometry.proofs.edge.Edge.height_at.Goals as goal

pub of_parts-requires : goal.of_parts-requires
of_parts-requires c =
    let over = given c.numerator_at.ensures (numerator_reads c.args.self.now c.args.x) tt in
    let under = given c.sub.ensures (offset_reads c.args.self.now.x1 c.args.self.now.x2) tt in
    record {
      least = least 1499999999999 over;
      greatest = greatest over;
      positive = omega (arith, ints, under.is, c.args.self.now.west_to_east);
      small = greatest under;
    }

pub returns : goal.returns
returns c =
    let over = given c.numerator_at.ensures (numerator_reads c.args.self.now c.args.x) tt in
    let under = given c.sub.ensures (offset_reads c.args.self.now.x1 c.args.self.now.x2) tt in
    same_ratio (c.of_parts.ensures.over ∙ over.is) (c.of_parts.ensures.under ∙ under.is)
