-- The zone of a point: that of the topmost edge under it, or open ground.
use Rattle.std.specs.Prelude.{◌≡◌, Bool, true, false, cond, ◌&&◌, List, [], ◌∷◌, ℤ, pos, ◌<ℤ◌, Some, None, filter, Option}
use Rattle.std.specs.List.{ContainsAt, AllByRecursion}
use Rattle.std.specs.List.Sorted.{IsPermutation}
use Rattle.records.specs.declared.raw.EdgeRecord.{EdgeRecord}
use Rattle.geometry.specs.Fraction.{whole, at_most}
use Rattle.geometry.specs.Edge.{covers, height, lies_under}
use Rattle.geometry.specs.Conflict.{conflict}

-- An edge is under a point if it covers the point's x and its height there is at most the point's y.
abbrev pub is_under : ℤ → ℤ → EdgeRecord → Bool
is_under px py e = covers e px && at_most (height e px) (whole py)

abbrev pub under : ℤ → ℤ → List EdgeRecord → List EdgeRecord
under px py records = filter (is_under px py) records

-- The best so far, or one edge more if the best lies under it.
abbrev pub higher : ℤ → Option EdgeRecord → EdgeRecord → Option EdgeRecord
higher x None e = Some e
higher x (Some best) e = Some (cond (lies_under x best e) e best)

-- The best of those so far and of all that follow, looking at each in turn.
abbrev pub highest : ℤ → Option EdgeRecord → List EdgeRecord → Option EdgeRecord
highest x best [] = best
highest x best (e ∷ records) = highest x (higher x best e) records

abbrev pub topmost : ℤ → List EdgeRecord → Option EdgeRecord
topmost x records = highest x None records

-- The zone above an edge; 0 is open ground.
abbrev pub zone_above : Option EdgeRecord → ℤ
zone_above None = pos 0
zone_above (Some e) = e.zone

abbrev pub zone_at : List EdgeRecord → ℤ → ℤ → ℤ
zone_at records px py = zone_above (topmost px (under px py records))

-- ---- in the subject's words
-- e names the zone of a point: it is a record, under the point, and lies under no other such record there.
pub record NamesTheZone (records : List EdgeRecord) (px py : ℤ) (e : EdgeRecord) : Type 0 where
  pub is_among : ContainsAt records e
  pub under : is_under px py e ≡ true
  pub none_higher : (f : EdgeRecord) → ContainsAt records f → is_under px py f ≡ true → lies_under px e f ≡ false

abbrev pub OpenGround : List EdgeRecord → ℤ → ℤ → Type 0
OpenGround records px py = AllByRecursion (λ e. is_under px py e ≡ false) records

-- The left end is west of the right end.
abbrev pub Wide : EdgeRecord → Type 0
Wide e = e.x1 <ℤ e.x2

-- Every record is wide, and no two at different places conflict.
abbrev pub Apart : List EdgeRecord → Type 0
Apart [] = Unit {0}
Apart (e ∷ records) = Wide e × AllByRecursion (λ f. conflict e f ≡ false) records × Apart records

-- ---- what holds
-- An edge names the zone, or the point is on open ground.
abbrev pub Named : List EdgeRecord → ℤ → ℤ → Option EdgeRecord → Type 0
Named records px py None = OpenGround records px py
Named records px py (Some e) = NamesTheZone records px py e

-- The topmost edge under a point names its zone.
abbrev pub TopmostNamesTheZone : Type 0
TopmostNamesTheZone =
    (records : List EdgeRecord) (px py : ℤ) → AllByRecursion Wide records → Named records px py (topmost px (under px py records))

-- No other edge does.
abbrev pub NamedByOneEdge : Type 0
NamedByOneEdge =
    (records : List EdgeRecord) (px py : ℤ) (e f : EdgeRecord) → Apart records → NamesTheZone records px py e → NamesTheZone records px py f → e ≡ f

-- The zone of a point is that above the edge that names it.
abbrev pub ZoneIsThatNamed : Type 0
ZoneIsThatNamed =
    (records : List EdgeRecord) (px py : ℤ) (e : EdgeRecord) → Apart records → NamesTheZone records px py e → zone_at records px py ≡ e.zone

-- On open ground it is 0.
abbrev pub ZoneOfOpenGround : Type 0
ZoneOfOpenGround = (records : List EdgeRecord) (px py : ℤ) → OpenGround records px py → zone_at records px py ≡ pos 0

-- The order of the records does not matter.
abbrev pub AnyOrderNamesIt : Type 0
AnyOrderNamesIt =
    (records shuffled : List EdgeRecord) (px py : ℤ) → Apart records → IsPermutation records shuffled → zone_at records px py ≡ zone_at shuffled px py
