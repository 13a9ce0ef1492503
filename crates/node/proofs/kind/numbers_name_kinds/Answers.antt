use Rattle.node.proofs.KindTable.{numbers_name_kinds_lem}
use Rattle.node.proofs.kind.numbers_name_kinds.Goals as goal

pub returns : goal.returns
returns c = numbers_name_kinds_lem
