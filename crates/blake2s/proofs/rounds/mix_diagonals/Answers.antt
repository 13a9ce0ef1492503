use Rattle.blake2s.specs.Mixing.{diagonals}
use Rattle.blake2s.proofs.rounds.mix_diagonals.Goals as goal

pub returns : goal.returns
unfolding diagonals
returns g c = cc
