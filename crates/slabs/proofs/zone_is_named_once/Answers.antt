use Rattle.slabs.proofs.zone_is_named_once.Goals as goal
use Rattle.slabs.proofs.Topmost.{topmost_names_the_zone, named_by_one_edge, zone_is_that_named, zone_of_open_ground, any_order_names_it}
use Rattle.slabs.proofs.Worked.{worked_cases}

pub returns : goal.returns
returns c = record {
  topmost = topmost_names_the_zone;
  once = named_by_one_edge;
  zone = zone_is_that_named;
  open_ground = zone_of_open_ground;
  unordered = any_order_names_it;
  worked = worked_cases;
}
