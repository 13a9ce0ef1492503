use Rattle.node_lines.proofs.Nodes.{records_show_their_nodes_lem}
use Rattle.node_lines.proofs.promises.records_show_their_nodes.Goals as goal

pub returns : goal.returns
returns c = records_show_their_nodes_lem
