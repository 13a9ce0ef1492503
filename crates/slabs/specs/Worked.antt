-- Three edges that meet at one left end, the zones around them, and what conflicts with one of them.
use Rattle.std.specs.Prelude.{◌≡◌, Bool, true, false, List, [], ◌∷◌, ℤ, pos, negsuc}
use Rattle.records.specs.declared.raw.EdgeRecord.{EdgeRecord}
use Rattle.geometry.specs.Conflict.{conflict}
use Rattle.slabs.specs.Topmost.{Apart, zone_at}

abbrev edge : ℤ → ℤ → ℤ → ℤ → ℤ → EdgeRecord
edge x1 y1 x2 y2 zone = record { number = zone; x1 = x1; y1 = y1; x2 = x2; y2 = y2; zone = zone }

-- from (0, 0) to (10, y)
abbrev spoke : ℤ → ℤ → EdgeRecord
spoke y zone = edge (pos 0) (pos 0) (pos 10) y zone

abbrev pub spokes : List EdgeRecord
spokes = spoke (pos 5) (pos 2) ∷ spoke (pos 8) (pos 3) ∷ spoke (pos 0) (pos 1) ∷ []

-- whether an edge conflicts with the spoke from (0, 0) to (10, 5)
abbrev conflicting : ℤ → ℤ → ℤ → ℤ → Bool
conflicting x1 y1 x2 y2 = conflict (spoke (pos 5) (pos 2)) (edge x1 y1 x2 y2 (pos 4))

pub record WorkedCases : Type 0 where
  pub apart : Apart spokes
  pub crosses : conflicting (pos 7) (pos 4) (pos 9) (pos 4) ≡ true
  pub crosses_upward : conflicting (pos 2) (pos 0) (pos 4) (pos 4) ≡ true
  pub on_one_line : conflicting (pos 2) (pos 1) (pos 4) (pos 2) ≡ true
  pub meets_from_above : conflicting (pos 0) (pos 8) (pos 10) (pos 5) ≡ false
  pub meets_from_below : conflicting (pos 0) (negsuc 2) (pos 10) (pos 5) ≡ false
  pub goes_on : conflicting (pos 10) (pos 5) (pos 20) (pos 10) ≡ false
  -- its line crosses the spoke at (2, 1), west of where it begins
  pub would_cross : conflicting (pos 4) (pos 3) (pos 10) (pos 9) ≡ false
  -- a point on an edge is above it
  pub on_an_edge : zone_at spokes (pos 2) (pos 1) ≡ pos 2
  pub between_two : zone_at spokes (pos 3) (pos 2) ≡ pos 2
  pub below_all : zone_at spokes (pos 2) (negsuc 0) ≡ pos 0
  -- where all meet, the steepest counts
  pub where_they_meet : zone_at spokes (pos 0) (pos 0) ≡ pos 3
  pub east_of_all : zone_at spokes (pos 10) (pos 9) ≡ pos 0
  pub west_of_all : zone_at spokes (negsuc 0) (pos 9) ≡ pos 0
