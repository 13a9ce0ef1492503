-- Which edges conflict.
use Rattle.std.specs.Prelude.{Bool, ◌&&◌, ◌||◌, ℤ, pos, int_le, int_lt}
use Rattle.std.specs.Int.{int_max, int_min}
use Rattle.records.specs.declared.raw.EdgeRecord.{EdgeRecord}
use Rattle.geometry.specs.Fraction.{difference}
use Rattle.geometry.specs.Edge.{height}

-- How far e stands above f at x, by sign: positive, zero or negative.
abbrev pub rise : EdgeRecord → EdgeRecord → ℤ → ℤ
rise e f x = difference (height e x) (height f x)

-- Both are zero, or one is positive and the other negative.
abbrev pub touch_or_cross : ℤ → ℤ → Bool
touch_or_cross a b =
    int_le a (pos 0) && int_le (pos 0) a && int_le b (pos 0) && int_le (pos 0) b || int_lt a (pos 0) && int_lt (pos 0) b || int_lt (pos 0) a && int_lt b (pos 0)

-- The greater of the left x, and the lesser of the right x.
abbrev pub west_limit : EdgeRecord → EdgeRecord → ℤ
west_limit e f = int_max e.x1 f.x1

abbrev pub east_limit : EdgeRecord → EdgeRecord → ℤ
east_limit e f = int_min e.x2 f.x2

-- Two edges conflict if they share a stretch of x, from L to R with L < R, and their heights differ by nothing at both, or by opposite signs.
abbrev pub conflict : EdgeRecord → EdgeRecord → Bool
conflict e f =
    int_lt (west_limit e f) (east_limit e f) && touch_or_cross (rise e f (west_limit e f)) (rise e f (east_limit e f))
