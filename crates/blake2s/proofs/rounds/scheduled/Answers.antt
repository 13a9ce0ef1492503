use Rattle.std.proofs.Common.{ℕ, ◌<◌, sym, ap, ◌∙◌, subst}
use Rattle.blake2s.specs.Mixing.{word_of, chosen}
use Rattle.blake2s.proofs.ScheduleTable.{sigma_below}
use Rattle.blake2s.proofs.rounds.scheduled.Goals as goal

pub word-requires : goal.word-requires
word-requires g c = subst (λ (i : ℕ). i < 16) (sym c.from.ensures) (sigma_below g.row.ROUND c.args.j)

pub returns : goal.returns
unfolding chosen
returns g c = c.word.ensures ∙ ap (word_of c.args.block.now) c.from.ensures
