use Rattle.node.proofs.ShortStrings.{strings_are_hashed_lem}
use Rattle.node.proofs.sizes.strings_are_hashed.Goals as goal

pub returns : goal.returns
returns c = strings_are_hashed_lem
