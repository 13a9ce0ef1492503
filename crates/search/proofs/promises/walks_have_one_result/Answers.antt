use Rattle.search.proofs.Walking.{one_result, honest_unique}
use Rattle.search.proofs.promises.walks_have_one_result.Goals as goal

pub returns : goal.returns
returns g c = record { walks = one_result g.C.Chart.judging; proofs = honest_unique g.C.Chart.judging }
