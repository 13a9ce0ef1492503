-- The node that was read from a record.
use Rattle.std.specs.Prelude.{◌≡◌, ℕ, ◌<◌, length, take, Ok, Result}
use Rattle.std.specs.List.{AllByRecursion}
use Rattle.refusal.specs.declared.Refusal.{Refusal}
use Rattle.refusal.specs.declared.Refusal.TheVariants.{SheetUnsound}
use Rattle.reader.specs.Reading.{onward}
use Rattle.calls.specs.Chain.{guard}
use Rattle.calls.specs.Sheets.{is_sound}
use Rattle.search.specs.Node.{Node}
use Rattle.search.specs.Judging.{Judging, Judgeable}
use Rattle.sheets.specs.declared.reading.SheetNode.{SheetNode}

-- Fields past its shape are not read.
abbrev pub node_of : SheetNode → Node
node_of node =
    record { kind = node.kind; numbers = take node.shape.numbers node.numbers; successors = take node.shape.successors node.successors }

-- A node, refused where it is not sound at its place.
abbrev pub sound_node : {Q : Type 0} → Judging Q → ℕ → Node → Result Node Refusal
sound_node judging place node = onward (guard (is_sound judging place node) SheetUnsound) (λ _. Ok node)

-- What is known of a node that was read at a place: its kind is known and has its shape, its numbers are as many as the shape says,
-- and fit, and its successors are as many, and stand before it.
pub record IsRead {Q : Type 0} (judging : Judging Q) (place : ℕ) (node : SheetNode) : Type 0 where
  pub judgeable : Judgeable judging node.shape node.kind (node_of node).numbers
  pub joined : length (node_of node).successors ≡ node.shape.successors
  pub before : AllByRecursion (λ successor. successor < place) (node_of node).successors

-- A string of at most four numbers and three digests has no more bytes.
abbrev pub longest_string : ℕ
longest_string = 116
