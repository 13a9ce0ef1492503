use Rattle.std.proofs.Common.{ℕ, List, ap, ◌∙◌}
use Rattle.blake2s.specs.Mixing.{rounds, folded, F}
use Rattle.blake2s.proofs.compression.absorb.Goals as goal

pub returns : goal.returns
unfolding F
returns c =
    c.xored.ensures ∙
    ap (folded c.args.h.now)
    (c.ten_rounds.ensures ∙ ap (λ (v : List ℕ). rounds c.args.block.now v 10) c.first_vector-v.ensures)
