use Rattle.std.proofs.Common.{take, Ok}
use Rattle.std.specs.List.{flat_map}
use Rattle.script.specs.Growth.{Grown}
use Rattle.node_lines.proofs.append.append_each.Given as goal

abbrev pub invariant-loop-item : goal.invariant-loop-item
invariant-loop-item g l = Grown l.initial.out (flat_map g.T.Field.shown (take l.item-index l.items)) (Ok tt) l.out
