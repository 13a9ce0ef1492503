use Rattle.search.proofs.Members.{same_list}
use Rattle.search.proofs.promises.same_members_are_the_same_list.Goals as goal

pub returns : goal.returns
returns g c = same_list g.C.Chart.judging g.C.Chart.drawing g.met.C.Chart.lawful
