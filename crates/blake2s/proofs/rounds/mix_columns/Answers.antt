use Rattle.blake2s.specs.Mixing.{columns}
use Rattle.blake2s.proofs.rounds.mix_columns.Goals as goal

pub returns : goal.returns
unfolding columns
returns g c = cc
