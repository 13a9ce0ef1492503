-- The tree of a slab's edges: the node of the middle edge, with the trees of those below it and of those above it.
use Rattle.std.proofs.Common.{◌≡◌, ℕ, ◌+◌, ◌<◌, List, [], ◌∷◌, map, length, get_or, take, ℤ, pos, sym, ap, ◌∙◌}
use Rattle.records.specs.declared.raw.EdgeRecord.{EdgeRecord}
use Rattle.geometry.specs.declared.crossing.Crossing.{Crossing}
use Rattle.node.specs.declared.kind.Kind.TheVariants.{Edge, Zone}
use Rattle.node.specs.Kinds.{number_of}
use Rattle.search.specs.Rose.{Rose, leaf, two}
use Rattle.zone_figure.specs.Halving.{bush_of}
use Rattle.zone_figure.specs.Slab.{edges_before, edge_tree}
use Rattle.zone_figure.proofs.Halving.{edges_halve}
use Rattle.zone_chart.specs.Contents.{crossed}
use Rattle.zone_chart.proofs.Halved.{from, none_halved, map_halved}

abbrev pub tree_on : ℤ → List Crossing → Rose
tree_on floor edges = edge_tree floor (bush_of edges_before (map crossed edges))

abbrev pub numbers_of : EdgeRecord → List ℤ
numbers_of e = e.x1 ∷ e.y1 ∷ e.x2 ∷ e.y2 ∷ []

pub tree_of_none : (floor : ℤ) (edges : List Crossing) → length edges ≡ 0 → tree_on floor edges ≡ leaf (number_of Zone) (floor ∷ [])
tree_of_none floor edges h = ap (edge_tree floor) (none_halved edges_before edges_halve crossed edges h)

module _ (floor : ℤ) (edges : List Crossing) (at : ℕ) (middle : Crossing) where
  abbrev pub below : Rose
  below = tree_on floor (take at edges)

  abbrev pub above : ℕ → Rose
  above zone = tree_on (pos zone) (from (at + 1) edges)

  pub tree_of_edges : (zone : ℕ) → zone ≡ middle.edge.zone → at ≡ edges_before (length edges) → at < length edges → middle ≡ get_or edges at middle
      → tree_on floor edges ≡ two (number_of Edge) (numbers_of (crossed middle)) below (above zone)
  tree_of_edges zone its-zone is inside read =
      ap (edge_tree floor) (map_halved edges_before edges_halve crossed edges at middle is inside read)
      ∙ ap (λ (z : ℕ). two (number_of Edge) (numbers_of (crossed middle)) below (above z)) (sym its-zone)
