use Rattle.search.proofs.Bytes.{strings_bytes}
use Rattle.search.proofs.promises.strings_have_their_bytes.Goals as goal

pub returns : goal.returns
returns g c = strings_bytes g.C.Chart.judging
