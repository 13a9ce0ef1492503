-- The ranges of the fields of a record.
use Rattle.std.specs.Prelude.{Bool, cond, ◌&&◌, ℤ, pos, negsuc, Some, None, Option, int_le}

abbrev pub within : ℤ → ℤ → ℤ → Bool
within low high z = int_le low z && int_le z high

-- Coordinates are whole decimetres from −500,000 to 500,000.
abbrev pub is_coordinate : ℤ → Bool
is_coordinate = within (negsuc 499999) (pos 500000)

-- A record number runs from 1 to 65,535.
abbrev pub is_record_number : ℤ → Bool
is_record_number = within (pos 1) (pos 65535)

-- A zone runs from 0 to 65,535, where 0 is open ground.
abbrev pub is_zone : ℤ → Bool
is_zone = within (pos 0) (pos 65535)

-- A value that passes a test, or none.
abbrev pub kept_by : (ℤ → Bool) → ℤ → Option ℤ
kept_by test z = cond (test z) (Some z) None
