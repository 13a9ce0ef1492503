use Rattle.calls.proofs.Collisions.{same_proofs_are_walks_lem}
use Rattle.calls.proofs.promises.same_proofs_are_walks.Goals as goal

pub returns : goal.returns
returns g c = same_proofs_are_walks_lem g.C.Chart.judging
