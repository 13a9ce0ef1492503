use Rattle.std.proofs.Common.{rules}
use Rattle.byte_commands.specs.Lines.{line_of_digest}
use Rattle.byte_commands.proofs.write.write_digest.Goals as goal

pub returns : goal.returns
returns c = c.write_line.ensures.line (line_of_digest c.args.digest.now) (λ r after left. search rules)
