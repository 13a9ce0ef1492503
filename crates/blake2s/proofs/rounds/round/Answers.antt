use Rattle.blake2s.proofs.RoundSteps.{round_more}
use Rattle.blake2s.proofs.rounds.round.Goals as goal

pub returns : goal.returns
returns g c =
    λ first before.
    round_more c.args.block.now first c.args.v.now c.mix_columns.new.v c.mix_diagonals.new.v g.row.ROUND
    before c.mix_columns.ensures c.mix_diagonals.ensures
