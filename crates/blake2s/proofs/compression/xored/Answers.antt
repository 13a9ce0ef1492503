use Rattle.std.proofs.Common.{refl}
use Rattle.blake2s.specs.Mixing.{folded}
use Rattle.blake2s.proofs.compression.xored.Goals as goal

pub returns : goal.returns
unfolding folded
returns c = refl
