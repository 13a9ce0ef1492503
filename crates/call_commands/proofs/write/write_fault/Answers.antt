use Rattle.std.proofs.Common.{rules}
use Rattle.call_commands.specs.Lines.{line_of_fault}
use Rattle.call_commands.proofs.write.write_fault.Goals as goal

pub returns : goal.returns
returns c = c.write_line.ensures.line (line_of_fault c.args.fault) (λ r after left. search rules)
