use Rattle.calls.proofs.Honest.{honest_proofs_are_accepted_lem}
use Rattle.calls.proofs.promises.honest_proofs_are_accepted.Goals as goal

pub returns : goal.returns
returns g c = honest_proofs_are_accepted_lem g.C.Chart.judging
