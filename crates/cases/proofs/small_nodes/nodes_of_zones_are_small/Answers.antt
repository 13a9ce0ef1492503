use Rattle.cases.proofs.SmallZones.{zones_are_small}
use Rattle.cases.proofs.small_nodes.nodes_of_zones_are_small.Goals as goal

pub returns : goal.returns
returns c = zones_are_small
