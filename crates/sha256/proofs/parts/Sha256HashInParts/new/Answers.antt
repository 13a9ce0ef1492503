use Rattle.std.proofs.Common.{refl}
use Rattle.sha256.specs.Standard.{after}
use Rattle.sha256.proofs.parts.Sha256HashInParts.new.Goals as goal

pub returns : goal.returns
unfolding after
returns c = record { counted = refl; absorbed = refl; held = refl }
