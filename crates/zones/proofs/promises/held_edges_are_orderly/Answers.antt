use Rattle.zones.proofs.Orderly.{orderly, same_list}
use Rattle.zones.proofs.promises.held_edges_are_orderly.Goals as goal

pub returns : goal.returns
returns c = record { orderly = orderly; members = same_list }
