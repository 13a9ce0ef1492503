use Rattle.zones.proofs.Orderly.{one_edge, any_order}
use Rattle.zones.proofs.promises.zone_is_named_by_one_edge.Goals as goal

pub returns : goal.returns
returns c = record { one = one_edge; unordered = any_order }
