-- When an edge may be added to those held.
use Rattle.std.specs.Prelude.{ℕ, Bool, false, cond, not, ◌||◌, List, [], ◌∷◌, length, ℤ, Some, None, Option, nat_le}
use Rattle.refusal.specs.declared.Refusal.{Refusal}
use Rattle.refusal.specs.declared.Refusal.TheVariants.{FieldOutOfRange, NumberHeld, RegisterFull, EdgeConflict}
use Rattle.records.specs.declared.raw.EdgeRecord.{EdgeRecord}
use Rattle.records.specs.Held.{holds}
use Rattle.geometry.specs.Edge.{is_edge}
use Rattle.geometry.specs.Conflict.{conflict}

abbrev pub number_of : EdgeRecord → ℤ
number_of e = e.number

-- A register holds at most 64 edges.
abbrev pub room_for : ℕ
room_for = 64

-- The edge conflicts with a held one.
abbrev pub conflicts_with_any : EdgeRecord → List EdgeRecord → Bool
conflicts_with_any e [] = false
conflicts_with_any e (f ∷ held) = conflict e f || conflicts_with_any e held

-- Why a record is not added to those held, in the order of the tests.
abbrev pub add_refusal : List EdgeRecord → EdgeRecord → Option Refusal
add_refusal held e =
    cond (not (is_edge e)) (Some FieldOutOfRange) (cond (holds number_of e.number held) (Some NumberHeld) (cond (nat_le room_for (length held)) (Some RegisterFull) (cond (conflicts_with_any e held) (Some EdgeConflict) None)))
