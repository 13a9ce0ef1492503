use Rattle.calls.proofs.Lockstep.{accepted_proofs_are_honest_lem}
use Rattle.calls.proofs.promises.accepted_proofs_are_honest.Goals as goal

pub returns : goal.returns
returns g c = accepted_proofs_are_honest_lem g.C.Chart.judging
