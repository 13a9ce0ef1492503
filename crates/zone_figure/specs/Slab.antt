-- One slab: its edges, and its tree.
use Rattle.std.specs.Prelude.{ℕ, ◌-◌, Bool, List, [], ◌∷◌, ℤ, pos, Some, None, filter, Option}
use Rattle.records.specs.declared.raw.EdgeRecord.{EdgeRecord}
use Rattle.slices.specs.Order.{sorted}
use Rattle.geometry.specs.Edge.{covers}
use Rattle.geometry.specs.Rank.{rank_at, rank_at_most}
use Rattle.node.specs.declared.kind.Kind.TheVariants.{Edge, Zone}
use Rattle.node.specs.Kinds.{number_of}
use Rattle.search.specs.Rose.{Rose, leaf, two}
use Rattle.zone_figure.specs.Halving.{Bush, bare, fork, half, bush_of}

-- From below at x: by height there, then slope, then number.
abbrev pub from_below : ℤ → EdgeRecord → EdgeRecord → Bool
from_below x e f = rank_at_most (rank_at x e) (rank_at x f)

abbrev pub covering : ℤ → List EdgeRecord → List EdgeRecord
covering x held = filter (λ e. covers e x) held

-- A slab is known by its west bound; the first one has none, and no edges. The edges of another are those that cover its west
-- bound, from below there.
abbrev pub slab_edges : List EdgeRecord → Option ℤ → List EdgeRecord
slab_edges held None = []
slab_edges held (Some west) = sorted (from_below west) (covering west held)

-- Of m edges, edge ⌈m/2⌉ counted from 1 stands at the fork.
abbrev pub edges_before : ℕ → ℕ
edges_before m = half m - 1

-- The tree of edges on a floor: below an edge the floor is the same, above it the edge's zone.
abbrev pub edge_tree : ℤ → Bush EdgeRecord → Rose
edge_tree floor bare = leaf (number_of Zone) (floor ∷ [])
edge_tree floor (fork low e high) =
    two (number_of Edge) (e.x1 ∷ e.y1 ∷ e.x2 ∷ e.y2 ∷ []) (edge_tree floor low) (edge_tree e.zone high)

-- A slab's tree is that of its edges on floor 0.
abbrev pub slab_tree : List EdgeRecord → Option ℤ → Rose
slab_tree held west = edge_tree (pos 0) (bush_of edges_before (slab_edges held west))
