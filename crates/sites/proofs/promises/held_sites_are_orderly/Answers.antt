use Rattle.sites.proofs.Orderly.{orderly, same_list}
use Rattle.sites.proofs.promises.held_sites_are_orderly.Goals as goal

pub returns : goal.returns
returns c = record { orderly = orderly; members = same_list }
