-- The figure of three edges, two of which share their left end.
use Rattle.std.specs.Prelude.{◌≡◌, ℕ, List, [], ◌∷◌, ℤ, pos}
use Rattle.records.specs.declared.raw.EdgeRecord.{EdgeRecord}
use Rattle.search.specs.Node.{Node}
use Rattle.zone_figure.specs.Figure.{zone_figure}

abbrev edge : ℤ → ℤ → ℤ → ℤ → ℤ → ℤ → EdgeRecord
edge number x1 y1 x2 y2 zone = record { number = number; x1 = x1; y1 = y1; x2 = x2; y2 = y2; zone = zone }

abbrev pub three_edges : List EdgeRecord
three_edges =
    edge (pos 1) (pos 0) (pos 0) (pos 100) (pos 0) (pos 5) ∷ edge (pos 2) (pos 0) (pos 0) (pos 100) (pos 100) (pos 7) ∷ edge (pos 3) (pos 0) (pos 200) (pos 100) (pos 200) (pos 0) ∷ []

abbrev split : ℤ → ℕ → ℕ → Node
split x low high = record { kind = 1; numbers = x ∷ []; successors = low ∷ high ∷ [] }

abbrev fork : ℤ → ℤ → ℤ → ℤ → ℕ → ℕ → Node
fork x1 y1 x2 y2 below above = record { kind = 2; numbers = x1 ∷ y1 ∷ x2 ∷ y2 ∷ []; successors = below ∷ above ∷ [] }

abbrev zone : ℤ → Node
zone z = record { kind = 3; numbers = z ∷ []; successors = [] }

abbrev pub FigureOfThreeEdges : Type 0
FigureOfThreeEdges =
    zone_figure three_edges ≡ zone (pos 0) ∷ zone (pos 5) ∷ fork (pos 0) (pos 0) (pos 100) (pos 0) 0 1 ∷ zone (pos 7) ∷ fork (pos 0) (pos 200) (pos 100) (pos 200) 3 0 ∷ fork (pos 0) (pos 0) (pos 100) (pos 100) 2 4 ∷ split (pos 0) 0 5 ∷ split (pos 100) 6 0 ∷ []
