use Rattle.std.proofs.Common.{◌++◌, drop, replicate, ap, ◌∙◌}
use Rattle.search.proofs.Filled.{filled_lem}
use Rattle.search.proofs.sheet.filled.Goals as goal

pub returns : goal.returns
returns g c =
    ap (λ t. t ++ drop c.min-used.result (replicate g.row.COUNT c.args.filler)) c.copy_from_slice.ensures.after ∙ filled_lem g.row.COUNT c.min-used.result c.args.filler c.args.xs.now c.min-used.ensures
