use Rattle.algebra.proofs.Range.{reads_sum}
use Rattle.geometry.proofs.Parts.{fits, stored, widened, base_reads, climb_reads}
use Rattle.geometry.proofs.edge.Edge.numerator_at.Goals as goal

pub overflow_mul-base : goal.overflow_mul-base
overflow_mul-base c =
    fits (base_reads c.args.self.now c.from.result c.sub.result (widened c.from.ensures c.value.type_inv c.value.ensures) c.sub.ensures) tt

pub overflow_mul-climb : goal.overflow_mul-climb
overflow_mul-climb c =
    fits (climb_reads c.args.self.now c.args.x c.sub-2.result c.sub-3.result c.sub-2.ensures c.sub-3.ensures) tt

pub overflow_add-result : goal.overflow_add-result
overflow_add-result c =
    let base = base_reads c.args.self.now c.from.result c.sub.result (widened c.from.ensures c.value.type_inv c.value.ensures) c.sub.ensures in
    let climb = climb_reads c.args.self.now c.args.x c.sub-2.result c.sub-3.result c.sub-2.ensures c.sub-3.ensures in
    fits (reads_sum (stored base tt) (stored climb tt)) tt

pub returns : goal.returns
returns c =
    let base = base_reads c.args.self.now c.from.result c.sub.result (widened c.from.ensures c.value.type_inv c.value.ensures) c.sub.ensures in
    let climb = climb_reads c.args.self.now c.args.x c.sub-2.result c.sub-3.result c.sub-2.ensures c.sub-3.ensures in
    (stored (reads_sum (stored base tt) (stored climb tt)) tt).is
