-- The kinds of nodes, each with its number and the shape of its strings.
use Rattle.std.specs.Prelude.{◌≡◌, ℕ, ◌+◌, ◌*◌, ◌≤◌, List, [], ◌∷◌, Some, None, Option, Result, MatchResult}
use Rattle.std.specs.List.{slice_get}
use Rattle.node.specs.declared.kind.Kind.{Kind}
use Rattle.node.specs.declared.kind.KindNotKnown.{KindNotKnown}
use Rattle.node.specs.declared.kind.Kind.TheVariants.{Empty, Split, Edge, Zone, XSpan, YSpan, Site}
use Rattle.node.specs.declared.shape.Shape.{Shape}

-- The number that stands for a kind in a string.
abbrev pub number_of : Kind → ℕ
number_of Empty = 0
number_of Split = 1
number_of Edge = 2
number_of Zone = 3
number_of XSpan = 4
number_of YSpan = 5
number_of Site = 6

abbrev pub kinds : List Kind
kinds = Empty ∷ Split ∷ Edge ∷ Zone ∷ XSpan ∷ YSpan ∷ Site ∷ []

-- The kind of a number; from 7 on there is none.
abbrev pub kind_numbered : ℕ → Option Kind
kind_numbered number = slice_get kinds number

-- A number turned into the kind that it stands for; one that stands for none is told of.
abbrev pub StandsFor : ℕ → Result Kind KindNotKnown → Type 0
StandsFor number result =
    MatchResult result
    (λ kind. kind_numbered number ≡ Some kind)
    (λ told. (kind_numbered number ≡ None) × (told.0 ≡ number))

abbrev pub shaped : ℕ → ℕ → Shape
shaped numbers successors = record { numbers = numbers; successors = successors }

-- How many numbers and how many successors a node of each kind has:
--   an empty node none; a split x, and low, high; an edge x1, y1, x2, y2, and below, above; a zone its zone;
--   an x span xmin, xmax, and left, right, across; a y span ymin, ymax, and left, right; a site its number, x, y.
abbrev pub shape_of : Kind → Shape
shape_of Empty = shaped 0 0
shape_of Split = shaped 1 2
shape_of Edge = shaped 4 2
shape_of Zone = shaped 1 0
shape_of XSpan = shaped 2 3
shape_of YSpan = shaped 2 2
shape_of Site = shaped 3 0

-- How many bytes a string of a shape has.
abbrev pub string_length : Shape → ℕ
string_length shape = 4 + 4 * shape.numbers + 32 * shape.successors

-- No kind has more than four numbers or more than three successors.
abbrev pub ShapesAreSmall : Type 0
ShapesAreSmall = (kind : Kind) → ((shape_of kind).numbers ≤ 4) × ((shape_of kind).successors ≤ 3)

-- The number of a kind names it.
abbrev pub NumbersNameKinds : Type 0
NumbersNameKinds = (kind : Kind) → kind_numbered (number_of kind) ≡ Some kind
