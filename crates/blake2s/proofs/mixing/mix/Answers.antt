use Rattle.blake2s.specs.Mixing.{G}
use Rattle.blake2s.proofs.mixing.mix.Goals as goal

pub returns : goal.returns
unfolding G
returns c = cc
