-- Roses drawn record by record into a sheet: what a drawing call answers, and what it leaves.
use Rattle.std.specs.Prelude.{◌≡◌, ℕ, min, Bool, cond, ◌&&◌, List, [], ◌∷◌, ◌++◌, map, length, take, drop, Some, None, Ok, Err, Option, Result, ◌==◌, nat_eq, nat_le}
use Rattle.std.specs.List.{position_from}
use Rattle.refusal.specs.declared.Refusal.{Refusal}
use Rattle.refusal.specs.declared.Refusal.TheVariants.{SheetTooSmall}
use Rattle.records.specs.Held.{same_number}
use Rattle.search.specs.declared.sheet.SheetRecord.{SheetRecord}
use Rattle.search.specs.declared.drafting.Draft.{Draft}
use Rattle.search.specs.Rose.{Rose, Roses, grown, end, more}
use Rattle.search.specs.Figure.{root_of}
use Rattle.search.specs.Judging.{Judging}
use Rattle.search.specs.Laws.{JudgesWell}
use Rattle.search.specs.Making.{agree, figure_of}
use Rattle.search.specs.Sheet.{record_of, usable}
use Rattle.search.specs.Visit.{FitsWhole}

-- Alike in kind, numbers and successor places, whatever the digests.
abbrev pub alike_records : SheetRecord → SheetRecord → Bool
alike_records sought other =
    (sought.kind == other.kind) && (agree same_number sought.numbers other.numbers && agree nat_eq sought.successors other.successors)

-- The first place of an alike record.
abbrev pub place_of_alike_record : SheetRecord → List SheetRecord → Option ℕ
place_of_alike_record sought records = position_from (alike_records sought) 0 records

-- The records drawn so far, and the place of the last one asked for.
pub record Drawn : Type 0 where
  pub records : List SheetRecord
  pub place : ℕ

abbrev pub found_or_added : List SheetRecord → SheetRecord → Option ℕ → Drawn
found_or_added records added (Some place) = record { records = records; place = place }
found_or_added records added None = record { records = records ++ added ∷ []; place = length records }

-- One more record: an alike one drawn earlier is that one.
abbrev pub drafted_record : List SheetRecord → SheetRecord → Drawn
drafted_record records added = found_or_added records added (place_of_alike_record added records)

pub record DrawnEach : Type 0 where
  pub records : List SheetRecord
  pub places : List ℕ

-- One more rose, its successors first, and several in their order.
abbrev mutual
  pub drafted : List SheetRecord → Rose → Drawn
  drafted records (grown kind numbers rs) =
      let successors = drafted_each records rs in
      drafted_record successors.records (record_of (record { kind = kind; numbers = numbers; successors = successors.places }))

  pub drafted_each : List SheetRecord → Roses → DrawnEach
  drafted_each records end = record { records = records; places = [] }
  drafted_each records (more r rs) =
      let first = drafted records r in
      let rest = drafted_each first.records rs in
      record { records = rest.records; places = first.place ∷ rest.places }

-- The first len records, as many of them as are usable.
abbrev pub drawn_so_far : ℕ → List SheetRecord → List SheetRecord
drawn_so_far len sheet = take (min len (usable sheet)) sheet

-- A sheet with records drawn into it from the first on, as many as are usable; the others are as they were.
abbrev pub sheet_with : List SheetRecord → List SheetRecord → List SheetRecord
sheet_with sheet records = take (usable sheet) records ++ drop (min (usable sheet) (length records)) sheet

-- The records drawn so far into a draft.
abbrev pub drawn_in : Draft → List SheetRecord
drawn_in draft = drawn_so_far draft.len draft.sheet.now

-- The place asked for, or the refusal of a drawing of more records than are usable.
abbrev pub place_answer : List SheetRecord → Drawn → Result ℕ Refusal
place_answer sheet drawn = cond (nat_le (length drawn.records) (usable sheet)) (Ok drawn.place) (Err SheetTooSmall)

-- What drawing answers, and the draft after it: its sheet is the same one, with the records drawn that are usable.
pub record Draws (before after : Draft) (answer : Result ℕ Refusal) (drawn : Drawn) : Type 0 where
  pub same_sheet : after.sheet.ghost_name ≡ before.sheet.ghost_name
  pub answered : answer ≡ place_answer before.sheet.now drawn
  pub leaves : after.sheet.now ≡ sheet_with before.sheet.now drawn.records
  pub counts : after.len ≡ min (usable before.sheet.now) (length drawn.records)

abbrev pub DrawsRecord : Draft → Draft → Result ℕ Refusal → SheetRecord → Type 0
DrawsRecord before after answer added = Draws before after answer (drafted_record (drawn_in before) added)

abbrev pub DrawsRose : Draft → Draft → Result ℕ Refusal → Rose → Type 0
DrawsRose before after answer rose = Draws before after answer (drafted (drawn_in before) rose)

-- The draft of a rose whose nodes fit is its figure, record by record, and the place asked for is the root's.
abbrev pub DraftsAreFigures : {Q : Type 0} → Judging Q → Type 0
DraftsAreFigures judging =
    JudgesWell judging → (rose : Rose) → FitsWhole judging rose → drafted [] rose ≡ record { records = map record_of (figure_of rose); place = root_of (figure_of rose) }
