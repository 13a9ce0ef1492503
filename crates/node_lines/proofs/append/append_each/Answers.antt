use Rattle.std.proofs.Common.{arith}
use Rattle.std.proofs.lemmas.Grind.{common_steps}
use Rattle.std.proofs.lemmas.List.Folds.{length-flat_map-take}
use Rattle.node_lines.proofs.append.append_each.Goals as goal

-- The item that memory lacked room for is one of all.
pub returns-in_err-append : goal.returns-in_err-append
returns-in_err-append g c =
    let part = length-flat_map-take g.T.Field.shown c.args.items.now c.loop-item.item-index c.item-item.result c.loop-item-test.true in
    grind (arith, common_steps)
