use Rattle.geometry.specs.FractionOrder.{fractions_are_ordered_lem}
use Rattle.geometry.proofs.promises.fractions_are_ordered.Goals as goal

pub returns : goal.returns
returns c = fractions_are_ordered_lem
