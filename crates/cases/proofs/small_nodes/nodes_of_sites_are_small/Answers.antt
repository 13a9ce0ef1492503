use Rattle.cases.proofs.SmallSites.{sites_are_small}
use Rattle.cases.proofs.small_nodes.nodes_of_sites_are_small.Goals as goal

pub returns : goal.returns
returns c = sites_are_small
