use Rattle.calls.proofs.Walked.{honest_proofs_are_written_lem}
use Rattle.calls.proofs.promises.honest_proofs_are_written.Goals as goal

pub returns : goal.returns
returns g c = honest_proofs_are_written_lem g.C.Chart.judging
