-- Nodes in the records of a sheet.
use Rattle.std.specs.Prelude.{ℕ, min, cond, List, ◌++◌, map, length, take, drop, replicate, pos, Ok, Err, Result, nat_le}
use Rattle.refusal.specs.declared.Refusal.{Refusal}
use Rattle.refusal.specs.declared.Refusal.TheVariants.{SheetTooSmall}
use Rattle.search.specs.declared.sheet.SheetRecord.{SheetRecord}
use Rattle.search.specs.Node.{Node}

-- The usable records are the first 8,192, or all of a shorter sheet.
abbrev pub usable : List SheetRecord → ℕ
usable sheet = min 8192 (length sheet)

-- As many fields, those not used filled.
abbrev pub filled_to : {X : Type 0} → ℕ → X → List X → List X
filled_to count filler xs = take count (xs ++ replicate count filler)

-- The record of a node: unused fields and the digest are 0.
abbrev pub record_of : Node → SheetRecord
record_of node =
    record { kind = node.kind; numbers = filled_to 4 (pos 0) node.numbers; successors = filled_to 3 0 node.successors; digest = replicate 32 0 }

-- The sheet once a figure is drawn into it: the figure's records from the first on, as many as are usable, and the others as
-- they were.
abbrev pub drawn_sheet : List Node → List SheetRecord → List SheetRecord
drawn_sheet figure sheet = map record_of (take (usable sheet) figure) ++ drop (min (usable sheet) (length figure)) sheet

-- How many nodes the figure has, or the refusal where it has more than there are usable records.
abbrev pub drawn_count : List Node → List SheetRecord → Result ℕ Refusal
drawn_count figure sheet = cond (nat_le (length figure) (usable sheet)) (Ok (length figure)) (Err SheetTooSmall)
