use Rattle.std.proofs.Common.{◌≡◌, ◌+◌, length, take}
use Rattle.std.specs.List.{flat_map}
use Rattle.node.specs.Writing.{put_at}
use Rattle.node.proofs.writing.put_each.Given as goal

abbrev pub invariant-loop-item : goal.invariant-loop-item
invariant-loop-item g l =
    (l.end ≡ l.at + length (flat_map g.T.Encoded.encoding (take l.item-index l.items)))
    × (l.out ≡ put_at l.initial.out l.at (flat_map g.T.Encoded.encoding (take l.item-index l.items)))
