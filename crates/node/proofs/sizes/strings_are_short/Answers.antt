use Rattle.node.proofs.ShortStrings.{strings_are_short_lem}
use Rattle.node.proofs.sizes.strings_are_short.Goals as goal

pub returns : goal.returns
returns c = strings_are_short_lem
