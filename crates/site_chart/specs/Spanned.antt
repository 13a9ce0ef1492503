-- The node of a span behind the nodes of its halves.
use Rattle.std.specs.Prelude.{ℕ, List, ◌∷◌, ℤ}
use Rattle.search.specs.declared.sheet.SheetRecord.{SheetRecord}
use Rattle.search.specs.Rose.{Roses}
use Rattle.search.specs.Sheet.{record_of}
use Rattle.search.specs.Drafting.{Drawn, drafted_record, drafted_each}

-- Its successors are the halves' nodes, whose places are given, and what is drawn besides.
abbrev pub spanned : ℕ → List ℤ → ℕ → ℕ → Roses → List SheetRecord → Drawn
spanned kind numbers left right besides records =
    let others = drafted_each records besides in
    drafted_record others.records (record_of (record { kind = kind; numbers = numbers; successors = left ∷ right ∷ others.places }))
