use Rattle.std.proofs.Common.{rules}
use Rattle.slices.proofs.OneValue.{one_value, filled_from}
use Rattle.slices.proofs.filling.fill_rest.Goals as goal

pub returns : goal.returns
returns g c =
    let ran = c.fill_with.ensures.ran in
    let same = one_value _ _ c.args.value (λ y q k. search rules) c.fill_with.new.self ran.0 ran.1 in
    filled_from c.args.s.now c.fill_with.new.self c.args.from c.min-begins.result c.args.value c.min-begins.ensures same c.fill_with.ensures.len
