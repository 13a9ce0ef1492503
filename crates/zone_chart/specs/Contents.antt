-- What the code's lists stand for.
use Rattle.std.specs.Prelude.{List, map, ℤ, Option}
use Rattle.std.specs.Option.{option_map}
use Rattle.records.specs.declared.raw.EdgeRecord.{EdgeRecord}
use Rattle.records.specs.declared.coordinate.Coordinate.{Coordinate}
use Rattle.geometry.specs.declared.edge.Edge.{Edge}
use Rattle.geometry.specs.declared.crossing.Crossing.{Crossing}
use Rattle.geometry.specs.Held.{raw_of}
use Rattle.zone_chart.specs.declared.bounds.Bound.{Bound}

abbrev pub records_of : List Edge → List EdgeRecord
records_of edges = map raw_of edges

-- The record of an edge where it crosses a slab's west bound.
abbrev pub crossed : Crossing → EdgeRecord
crossed crossing = raw_of crossing.edge

abbrev pub value_of : Bound → ℤ
value_of bound = bound.x.value

-- A west bound; the first slab has none.
abbrev pub west_of : Option Coordinate → Option ℤ
west_of west = option_map (λ x. x.value) west
