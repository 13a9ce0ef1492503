use Rattle.std.proofs.Common.{length, rules, arith}
use Rattle.std.proofs.lemmas.Grind.{common_steps}
use Rattle.node_lines.specs.FigureLines.{line_of_count}
use Rattle.node_lines.proofs.figure_lines.write_figure.Goals as goal

pub returns : goal.returns
returns c =
    let first = c.in_ok-write_line.ensures.line (line_of_count (length c.args.nodes.now)) (λ r after left. search rules) in
    grind (arith, common_steps)
