use Rattle.calls.proofs.Collisions.{clashes_are_collisions_lem}
use Rattle.calls.proofs.promises.clashes_are_collisions.Goals as goal

pub returns : goal.returns
returns g c = clashes_are_collisions_lem g.C.Chart.judging
