use Rattle.node.proofs.KindTable.{shapes_are_small_lem}
use Rattle.node.proofs.sizes.shapes_are_small.Goals as goal

pub returns : goal.returns
returns c = shapes_are_small_lem
