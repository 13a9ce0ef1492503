-- The bounds between slabs.
use Rattle.std.specs.Prelude.{cond, List, [], ◌∷◌, ℤ, int_le, int_lt}
use Rattle.records.specs.declared.raw.EdgeRecord.{EdgeRecord}
use Rattle.slices.specs.Order.{sorted}

-- The x of all ends.
abbrev pub ends_of : List EdgeRecord → List ℤ
ends_of [] = []
ends_of (e ∷ held) = e.x1 ∷ e.x2 ∷ ends_of held

-- Of a rising list, each value once.
abbrev pub distinct : List ℤ → List ℤ
distinct [] = []
distinct (x ∷ []) = x ∷ []
distinct (x ∷ y ∷ ys) = let later = distinct (y ∷ ys) in cond (int_lt x y) (x ∷ later) later

-- The distinct x of all ends, rising.
abbrev pub bounds_of : List EdgeRecord → List ℤ
bounds_of held = distinct (sorted int_le (ends_of held))
