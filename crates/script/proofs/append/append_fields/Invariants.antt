use Rattle.std.proofs.Common.{take, Ok}
use Rattle.std.specs.List.{flat_map}
use Rattle.script.specs.Growth.{Grown}
use Rattle.script.specs.Lines.{after_space}
use Rattle.script.proofs.append.append_fields.Given as goal

abbrev pub invariant-loop-number : goal.invariant-loop-number
invariant-loop-number g l =
    Grown l.initial.out (flat_map (λ n. after_space (g.I.Integer.text n)) (take l.number-index l.numbers)) (Ok tt) l.out
