use Rattle.calls.proofs.Turns.{turns_suffice_lem}
use Rattle.calls.proofs.promises.turns_suffice.Goals as goal

pub returns : goal.returns
returns g c = turns_suffice_lem g.C.Chart.judging
