-- One node drawn behind the first records of a sheet: its place, and how many records are drawn then.
use Rattle.std.specs.Prelude.{cond, List, length, Ok, Err, Result, nat_le}
use Rattle.refusal.specs.declared.Refusal.{Refusal}
use Rattle.refusal.specs.declared.Refusal.TheVariants.{SheetTooSmall}
use Rattle.search.specs.declared.drafting.Drawn.{Drawn as DrawnNode}
use Rattle.search.specs.declared.sheet.SheetRecord.{SheetRecord}
use Rattle.search.specs.Drafting.{Drawn}
use Rattle.search.specs.Sheet.{usable}

-- The place asked for and how many records are drawn, or the refusal of a drawing of more records than are usable.
abbrev pub draft_answer : List SheetRecord → Drawn → Result DrawnNode Refusal
draft_answer sheet drawn =
    cond (nat_le (length drawn.records) (usable sheet)) (Ok (record { place = drawn.place; len = length drawn.records })) (Err SheetTooSmall)
