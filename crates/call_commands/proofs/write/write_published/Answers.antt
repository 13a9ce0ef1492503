use Rattle.std.proofs.Common.{rules}
use Rattle.call_commands.specs.Lines.{line_of_published}
use Rattle.call_commands.proofs.write.write_published.Goals as goal

pub returns : goal.returns
returns c = c.write_line.ensures.line (line_of_published c.args.count c.args.root.now) (λ r after left. search rules)
