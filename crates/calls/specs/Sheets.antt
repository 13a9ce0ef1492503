-- The nodes and digests that the records of any sheet show, whoever wrote them.
use Rattle.std.specs.Prelude.{ℕ, Bool, ◌&&◌, List, map, take, is_some, Some, None, Ok, Option, Result, nat_le, nat_lt}
use Rattle.std.specs.List.{slice_get, list_all}
use Rattle.refusal.specs.declared.Refusal.{Refusal}
use Rattle.refusal.specs.declared.Refusal.TheVariants.{SheetUnsound}
use Rattle.node.specs.declared.shape.Shape.{Shape}
use Rattle.node.specs.Kinds.{shaped}
use Rattle.reader.specs.Reading.{onward}
use Rattle.search.specs.declared.sheet.SheetRecord.{SheetRecord}
use Rattle.search.specs.Node.{Node}
use Rattle.search.specs.Judging.{Judging}
use Rattle.search.specs.Sheet.{usable}
use Rattle.calls.specs.Chain.{guard, found}

-- A kind that is not known has no numbers and no successors.
abbrev pub or_bare : Option Shape → Shape
or_bare (Some shape) = shape
or_bare None = shaped 0 0

-- The node that a record shows: fields past the shape of its kind are not read.
abbrev pub node_in : {Q : Type 0} → Judging Q → SheetRecord → Node
node_in judging r =
    record {
      kind = r.kind;
      numbers = take (or_bare (judging.shape_of r.kind)).numbers r.numbers;
      successors = take (or_bare (judging.shape_of r.kind)).successors r.successors;
    }

-- The nodes of records, and the digests stored in them.
abbrev pub nodes_of : {Q : Type 0} → Judging Q → List SheetRecord → List Node
nodes_of judging records = map (node_in judging) records

abbrev pub stored_digests : List SheetRecord → List (List ℕ)
stored_digests records = map (λ r. r.digest) records

-- Those of the counted records.
abbrev pub nodes_in : {Q : Type 0} → Judging Q → List SheetRecord → ℕ → List Node
nodes_in judging sheet count = nodes_of judging (take count sheet)

abbrev pub digests_on : List SheetRecord → ℕ → List (List ℕ)
digests_on sheet count = stored_digests (take count sheet)

-- A count is sound if it is not 0 and no more than the usable records. The root stands at the last counted record.
abbrev pub is_count : List SheetRecord → ℕ → Bool
is_count sheet count = nat_lt 0 count && nat_le count (usable sheet)

abbrev pub all_before : ℕ → List ℕ → Bool
all_before place successors = list_all (λ successor. nat_lt successor place) successors

-- A node is sound at a place if its kind is known, its numbers are fit, and every successor stands before it.
abbrev pub is_sound : {Q : Type 0} → Judging Q → ℕ → Node → Bool
is_sound judging place node =
    is_some (judging.shape_of node.kind) && (judging.is_fit node.kind node.numbers && all_before place node.successors)

-- The node at a place, refused where it is not sound.
abbrev pub sound_at : {Q : Type 0} → Judging Q → List Node → ℕ → Result Node Refusal
sound_at judging nodes place =
    onward (found (slice_get nodes place) SheetUnsound) (λ node.
    onward (guard (is_sound judging place node) SheetUnsound) (λ _.
    Ok node))
