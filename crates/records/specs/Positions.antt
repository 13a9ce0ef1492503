-- Points whose coordinates are in range, and the point of a position.
use Rattle.std.specs.Prelude.{Bool, ◌&&◌}
use Rattle.records.specs.declared.position.Position.{Position}
use Rattle.records.specs.declared.raw.Point.{Point}
use Rattle.records.specs.Range.{is_coordinate}

abbrev pub is_position : Point → Bool
is_position p = is_coordinate p.x && is_coordinate p.y

abbrev pub point_of : Position → Point
point_of p = record { x = p.x.value; y = p.y.value }
