use Rattle.std.proofs.Common.{refl}
use Rattle.calls.specs.Proving.{proved_from}
use Rattle.calls.specs.Checking.{checked_from}
use Rattle.calls.specs.Comparing.{compared_from}
use Rattle.cases.proofs.worked_cases_hold.Goals as goal

pub returns : goal.returns
unfolding proved_from checked_from compared_from
returns c = (
  record { size = refl; answers = refl; additions = refl },
  record { size = refl; answers = refl; additions = refl },
)
