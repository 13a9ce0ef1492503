use Rattle.site_figure.proofs.Holding.{figures_have_few_nodes_lem, figures_have_room}
use Rattle.site_figure.proofs.promises.figures_have_few_nodes.Goals as goal

pub returns : goal.returns
returns c = record { nodes = figures_have_few_nodes_lem; room = figures_have_room }
