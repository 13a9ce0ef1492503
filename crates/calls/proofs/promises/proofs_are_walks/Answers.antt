use Rattle.calls.proofs.Walked.{proofs_are_walks_lem}
use Rattle.calls.proofs.promises.proofs_are_walks.Goals as goal

pub returns : goal.returns
returns g c = proofs_are_walks_lem g.C.Chart.judging
