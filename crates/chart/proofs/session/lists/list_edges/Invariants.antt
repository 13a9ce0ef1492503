use Rattle.std.proofs.Common.{◌≡◌, ◌++◌, take, vec_items}
use Rattle.std.specs.List.{flat_map}
use Rattle.zones.specs.Register.{held}
use Rattle.script.specs.Lines.{ended, line_of_edge}
use Rattle.chart.proofs.session.lists.list_edges.Given as goal

-- The lines of the records so far stand at the end.
abbrev pub invariant-loop-edge : goal.invariant-loop-edge
invariant-loop-edge l =
    vec_items l.out ≡ vec_items l.initial.out ++ flat_map (λ r. ended (line_of_edge r)) (take l.edge-index (held l.fn.register))
