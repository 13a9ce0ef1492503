-- The lines that show a figure.
use Rattle.std.specs.Prelude.{◌≡◌, ℕ, suc, cond, List, [], ◌∷◌, ◌++◌, map, length, take, ℤ, pos, Some, None, codes, decimal, Option, nat_le}
use Rattle.std.specs.List.{flat_map}
use Rattle.node.specs.Kinds.{kind_numbered, number_of, shape_of}
use Rattle.node.specs.declared.kind.Kind.{Kind}
use Rattle.node.specs.declared.kind.Kind.TheVariants.{Empty, Split, Edge, Zone, XSpan, YSpan, Site}
use Rattle.refusal.specs.declared.Refusal.TheVariants.{SheetTooSmall}
use Rattle.script.specs.Lines.{ended, field, line_of_refusal}
use Rattle.search.specs.Node.{Node}
use Rattle.search.specs.Sheet.{record_of}
use Rattle.search.specs.declared.sheet.SheetRecord.{SheetRecord}
use Rattle.node_lines.specs.Shown.{after_text}

abbrev pub name_of : Kind → List ℕ
name_of Empty = codes "empty"
name_of Split = codes "split"
name_of Edge = codes "edge"
name_of Zone = codes "zone"
name_of XSpan = codes "x span"
name_of YSpan = codes "y span"
name_of Site = codes "site"

-- The successors' places, after a semicolon.
abbrev pub successors_shown : List ℕ → List ℕ
successors_shown places = after_text (codes ";") (λ m. field (pos m)) places

abbrev pub numbers_and_successors : List ℤ → List ℕ → List ℕ
numbers_and_successors numbers places = flat_map field numbers ++ successors_shown places

-- The kind's name, and as many numbers and successors' places as its shape has.
abbrev pub parts_shown : Kind → SheetRecord → List ℕ
parts_shown kind node =
    name_of kind ++ numbers_and_successors (take (shape_of kind).numbers node.numbers) (take (shape_of kind).successors node.successors)

-- Figures have nodes of the seven kinds alone.
abbrev pub of_kind : Option Kind → SheetRecord → List ℕ
of_kind (Some kind) node = parts_shown kind node
of_kind None node = codes "kind not known"

abbrev pub record_shown : SheetRecord → List ℕ
record_shown node = of_kind (kind_numbered node.kind) node

abbrev pub place_shown : ℕ → List ℕ
place_shown place = decimal place ++ codes ": "

abbrev pub line_of_record : ℕ → SheetRecord → List ℕ
line_of_record place node = place_shown place ++ record_shown node

-- The lines of records, of which the first has this place.
abbrev pub record_lines : ℕ → List SheetRecord → List ℕ
record_lines place [] = []
record_lines place (node ∷ nodes) = ended (line_of_record place node) ++ record_lines (suc place) nodes

abbrev pub line_of_count : ℕ → List ℕ
line_of_count count = (codes "figure of " ++ decimal count) ++ codes " nodes"

abbrev pub sheet_lines : List SheetRecord → List ℕ
sheet_lines nodes = ended (line_of_count (length nodes)) ++ record_lines 0 nodes

-- What is printed of a figure: each node by its record, unless no sheet has room for them.
abbrev pub printed_figure : List Node → List ℕ
printed_figure figure =
    cond (nat_le (length figure) 8192) (sheet_lines (map record_of figure)) (ended (line_of_refusal SheetTooSmall))

-- The line of a node itself.
abbrev pub line_of_node : ℕ → Kind → Node → List ℕ
line_of_node place kind node = place_shown place ++ (name_of kind ++ numbers_and_successors node.numbers node.successors)

-- The record of a node with the shape of its kind shows just that.
abbrev pub RecordsShowTheirNodes : Type 0
RecordsShowTheirNodes =
    (place : ℕ) (kind : Kind) (node : Node) → node.kind ≡ number_of kind
    → length node.numbers ≡ (shape_of kind).numbers → length node.successors ≡ (shape_of kind).successors
    → line_of_record place (record_of node) ≡ line_of_node place kind node
