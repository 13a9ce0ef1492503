use Rattle.geometry.proofs.LiesUnder.{lying_under_is_ordered_lem}
use Rattle.geometry.proofs.promises.lying_under_is_ordered.Goals as goal

pub returns : goal.returns
returns c = lying_under_is_ordered_lem
