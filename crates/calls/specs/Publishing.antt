-- What a publish answers, and what it leaves in the sheet.
use Rattle.std.specs.Prelude.{ℕ, ◌-◌, cond, List, [], ◌∷◌, ◌++◌, map, length, drop, Option, nat_le}
use Rattle.std.specs.List.{slice_get}
use Rattle.std.specs.Option.{option_map}
use Rattle.search.specs.declared.sheet.SheetRecord.{SheetRecord}
use Rattle.search.specs.Node.{Node}
use Rattle.search.specs.Sheet.{record_of, usable, drawn_sheet}
use Rattle.search.specs.Honest.{digests_of}

abbrev pub with_digest : SheetRecord → List ℕ → SheetRecord
with_digest r digest = record { kind = r.kind; numbers = r.numbers; successors = r.successors; digest = digest }

-- Records, each with its digest.
abbrev pub with_digests : List SheetRecord → List (List ℕ) → List SheetRecord
with_digests [] digests = []
with_digests (r ∷ rs) [] = []
with_digests (r ∷ rs) (digest ∷ digests) = with_digest r digest ∷ with_digests rs digests

-- The records of a figure, each with the digest of its node.
abbrev pub published_records : (List ℕ → List ℕ) → List Node → List SheetRecord
published_records hash figure = with_digests (map record_of figure) (digests_of hash figure)

-- The sheet once a figure is published in it: its records from the first on, and every other as it was. A figure that has more
-- nodes than there are usable records is only drawn, as far as they go, with zero digests.
abbrev pub published_sheet : (List ℕ → List ℕ) → List Node → List SheetRecord → List SheetRecord
published_sheet hash figure sheet =
    cond (nat_le (length figure) (usable sheet))
    (published_records hash figure ++ drop (length figure) sheet)
    (drawn_sheet figure sheet)

-- The root is the digest of the last of the counted records.
abbrev pub root_in : List SheetRecord → ℕ → Option (List ℕ)
root_in sheet count = option_map (λ r. r.digest) (slice_get sheet (count - 1))
