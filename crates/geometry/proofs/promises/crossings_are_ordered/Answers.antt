use Rattle.geometry.specs.RankOrder.{crossings_are_ordered_lem}
use Rattle.geometry.proofs.promises.crossings_are_ordered.Goals as goal

pub returns : goal.returns
returns c = crossings_are_ordered_lem
