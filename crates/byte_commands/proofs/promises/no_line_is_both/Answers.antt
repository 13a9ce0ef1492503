use Rattle.byte_commands.proofs.Verbs.{lines_apart}
use Rattle.byte_commands.proofs.promises.no_line_is_both.Goals as goal

pub returns : goal.returns
returns c = lines_apart
