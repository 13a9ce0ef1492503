use Rattle.std.proofs.Common.{rules}
use Rattle.node_lines.specs.StringLines.{line_of_parts}
use Rattle.node_lines.proofs.string_lines.write_string_line.Goals as goal

pub returns : goal.returns
returns c =
    let line = c.write_line.ensures.line (line_of_parts c.begins-place.result c.kind-kind.result c.number_bytes-numbers.result.now c.successor_bytes-successors.result.now) (λ r after left. search rules) in
    rw (← c.begins-place.ensures, ← c.kind-kind.ensures, ← c.number_bytes-numbers.ensures, ← c.successor_bytes-successors.ensures) line
