use Rattle.search.proofs.Rooted.{root_is_last_lem, stands_at_root}
use Rattle.search.proofs.promises.root_is_last.Goals as goal

pub returns : goal.returns
returns c = record { last = root_is_last_lem; stands = stands_at_root }
