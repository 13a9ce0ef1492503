-- What is true of the edges that a register can hold.
use Rattle.std.specs.Prelude.{◌≡◌, ◌≤◌, true, List, length, ℤ}
use Rattle.std.specs.List.{ContainsAt, AllByRecursion}
use Rattle.std.specs.List.Sorted.{IsPermutation}
use Rattle.records.specs.declared.raw.EdgeRecord.{EdgeRecord}
use Rattle.records.specs.Held.{Holdable, is_before}
use Rattle.slices.specs.Order.{rising}
use Rattle.geometry.specs.Edge.{is_edge}
use Rattle.slabs.specs.Topmost.{Apart, NamesTheZone, zone_at}
use Rattle.zones.specs.Edges.{number_of, add_refusal}

abbrev pub CanBeHeld : List EdgeRecord → Type 0
CanBeHeld = Holdable number_of add_refusal

-- Each is an edge, there are at most 64, their numbers rise, and no two conflict.
pub record Orderly (rs : List EdgeRecord) : Type 0 where
  pub fields : AllByRecursion (λ r. is_edge r ≡ true) rs
  pub few : length rs ≤ 64
  pub numbers : rising (is_before number_of) rs ≡ true
  pub apart : Apart rs

abbrev pub HeldEdgesAreOrderly : Type 0
HeldEdgesAreOrderly = (rs : List EdgeRecord) → CanBeHeld rs → Orderly rs

-- Two registers with the same members hold the same list.
abbrev pub SameEdgesSameList : Type 0
SameEdgesSameList =
    (rs ss : List EdgeRecord) → CanBeHeld rs → CanBeHeld ss → ((r : EdgeRecord) → ContainsAt rs r → ContainsAt ss r) → ((r : EdgeRecord) → ContainsAt ss r → ContainsAt rs r) → rs ≡ ss

-- The edge that names the zone of a point is unique.
abbrev pub ZoneIsNamedByOneEdge : Type 0
ZoneIsNamedByOneEdge =
    (rs : List EdgeRecord) (px py : ℤ) (e f : EdgeRecord) → CanBeHeld rs → NamesTheZone rs px py e → NamesTheZone rs px py f → e ≡ f

-- The zone of a point does not depend on the order of the records.
abbrev pub ZoneIsTheSameInAnyOrder : Type 0
ZoneIsTheSameInAnyOrder =
    (rs shuffled : List EdgeRecord) (px py : ℤ) → CanBeHeld rs → IsPermutation rs shuffled → zone_at rs px py ≡ zone_at shuffled px py
