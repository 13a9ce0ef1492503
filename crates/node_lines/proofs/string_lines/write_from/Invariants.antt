use Rattle.std.proofs.Common.{◌≡◌, ◌++◌, vec_items}
use Rattle.reader.specs.Reading.{bytes_left, position_of}
use Rattle.node_lines.specs.StringLines.{all_string_lines}
use Rattle.node_lines.proofs.string_lines.write_from.Given as goal

-- What is written and what is still to be written are the whole.
abbrev pub invariant-loop-reader : goal.invariant-loop-reader
invariant-loop-reader l = vec_items l.out ++ all_string_lines (position_of l.reader) ≡ vec_items l.initial.out ++ all_string_lines (position_of l.initial.reader)

abbrev pub decreases-loop-reader : goal.decreases-loop-reader
decreases-loop-reader l = bytes_left (position_of l.reader)
