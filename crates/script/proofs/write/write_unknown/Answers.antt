use Rattle.std.proofs.Common.{rules}
use Rattle.script.specs.Lines.{line_of_unknown}
use Rattle.script.proofs.write.write_unknown.Goals as goal

pub returns : goal.returns
returns c = c.write_line.ensures.line (line_of_unknown c.args.line.now) (λ r after left. search rules)
