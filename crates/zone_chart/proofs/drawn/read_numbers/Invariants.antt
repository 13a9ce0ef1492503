use Rattle.std.proofs.Common.{◌≡◌, true, map, take}
use Rattle.std.specs.List.{AllByRecursion}
use Rattle.geometry.specs.Edge.{is_edge}
use Rattle.geometry.specs.Held.{raw_of}
use Rattle.zone_chart.proofs.drawn.read_numbers.Given as goal

-- Those before are edges.
abbrev pub invariant-loop-edge : goal.invariant-loop-edge
invariant-loop-edge l = AllByRecursion (λ r. is_edge r ≡ true) (map raw_of (take l.edge-index l.edges))
