use Rattle.node_lines.proofs.Turns.{all_strings_have_lines_lem}
use Rattle.node_lines.proofs.promises.all_strings_have_lines.Goals as goal

pub returns : goal.returns
returns c = all_strings_have_lines_lem
