use Rattle.std.proofs.Common.{◌≡◌, map, take}
use Rattle.std.specs.Option.{option_map}
use Rattle.geometry.specs.Held.{raw_of}
use Rattle.slabs.specs.Topmost.{topmost, under}
use Rattle.zones.proofs.register.ZoneRegister.topmost_under.Given as goal

-- The best is the topmost of the edges looked at so far.
abbrev pub invariant-loop-edge : goal.invariant-loop-edge
invariant-loop-edge l =
    option_map raw_of l.best ≡ topmost l.position.x.value (under l.position.x.value l.position.y.value (map raw_of (take l.edge-index l.edge-items)))
