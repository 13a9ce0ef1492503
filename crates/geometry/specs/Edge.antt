-- Boundary edges: which records are edges, where one covers, its height and its slope.
use Rattle.std.specs.Prelude.{Bool, ◌&&◌, ◌||◌, ℤ, ◌+ℤ◌, ◌-ℤ◌, ◌*ℤ◌, int_le, int_lt}
use Rattle.records.specs.declared.raw.EdgeRecord.{EdgeRecord}
use Rattle.records.specs.declared.raw.Point.{Point}
use Rattle.records.specs.Range.{is_coordinate, is_record_number, is_zone}
use Rattle.geometry.specs.Fraction.{Ratio, less, level}

-- Every field is in its range, and the left end is west of the right end.
abbrev pub is_edge : EdgeRecord → Bool
is_edge e =
    is_record_number e.number && is_coordinate e.x1 && is_coordinate e.y1 && is_coordinate e.x2 && is_coordinate e.y2 && is_zone e.zone && int_lt e.x1 e.x2

-- Its ends.
abbrev pub left_end : EdgeRecord → Point
left_end e = record { x = e.x1; y = e.y1 }

abbrev pub right_end : EdgeRecord → Point
right_end e = record { x = e.x2; y = e.y2 }

-- An edge covers x where x1 ≤ x < x2.
abbrev pub covers : EdgeRecord → ℤ → Bool
covers e x = int_le e.x1 x && int_lt x e.x2

-- Its height at x is y1 + (y2 − y1)×(x − x1)/(x2 − x1), here over the one denominator x2 − x1.
abbrev pub height : EdgeRecord → ℤ → Ratio
height e x =
    record {
      over = (e.y1 *ℤ (e.x2 -ℤ e.x1)) +ℤ ((e.y2 -ℤ e.y1) *ℤ (x -ℤ e.x1));
      under = e.x2 -ℤ e.x1;
    }

-- Its slope is (y2 − y1)/(x2 − x1).
abbrev pub slope : EdgeRecord → Ratio
slope e = record { over = e.y2 -ℤ e.y1; under = e.x2 -ℤ e.x1 }

-- e lies under f at x: its height there is less, or equal and its slope is less.
abbrev pub lies_under : ℤ → EdgeRecord → EdgeRecord → Bool
lies_under x e f = less (height e x) (height f x) || level (height e x) (height f x) && less (slope e) (slope f)
