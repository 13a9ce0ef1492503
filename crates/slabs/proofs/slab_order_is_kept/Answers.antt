use Rattle.slabs.proofs.slab_order_is_kept.Goals as goal
use Rattle.slabs.proofs.Order.{order_is_kept, never_level}

pub returns : goal.returns
returns c = record { kept = order_is_kept; strict = never_level }
