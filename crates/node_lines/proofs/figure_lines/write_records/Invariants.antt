use Rattle.std.proofs.Common.{◌≡◌, ◌++◌, drop, vec_items}
use Rattle.node_lines.specs.FigureLines.{record_lines}
use Rattle.node_lines.proofs.figure_lines.write_records.Given as goal

-- What is written and what is still to be written are the whole.
abbrev pub invariant-loop-place : goal.invariant-loop-place
invariant-loop-place l = vec_items l.out ++ record_lines l.place (drop l.place l.nodes) ≡ vec_items l.initial.out ++ record_lines 0 l.nodes
