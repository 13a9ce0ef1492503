-- The nodes of a figure of edges are of their kinds' shapes, whatever is held.
use Rattle.std.proofs.Common.{◌≡◌, true, sym, subst, List, ℤ, Some, None, Option, refl}
use Rattle.std.specs.List.{AllByRecursion}
use Rattle.std.proofs.ByRecursion.{All-weaker}
use Rattle.records.specs.Range.{is_coordinate}
use Rattle.records.specs.declared.raw.EdgeRecord.{EdgeRecord}
use Rattle.records.specs.declared.raw.Point.{Point}
use Rattle.node.specs.declared.kind.Kind.TheVariants.{Split, Edge as EdgeKind, Zone}
use Rattle.node.specs.Kinds.{shape_of}
use Rattle.search.specs.Judging.{Judging}
use Rattle.search.specs.Visit.{FitsWhole}
use Rattle.zone_figure.specs.Judge.{zone_judging}
use Rattle.zone_figure.specs.Halving.{Bush, bare, fork, bush_of}
use Rattle.zone_figure.specs.Bounds.{bounds_of}
use Rattle.zone_figure.specs.Slab.{edges_before, slab_edges, edge_tree, slab_tree}
use Rattle.zone_figure.specs.Figure.{bounds_before, run_tree, zone_tree}
use Rattle.zone_figure.proofs.Halving.{bounds_halve, elements_of}
use Rattle.zone_figure.proofs.Bounds.{all_bounds}
use Rattle.zone_figure.proofs.Fitness.{Parts, run_tree_fits}
use Rattle.zone_figure.proofs.Slabs.{slab_fits as slab_fits_lem}
use Rattle.search.proofs.Shapes.{shapes_in}

abbrev pub zone_shapes : Judging Point
zone_shapes = shapes_in zone_judging

edges_fit : (bush : Bush EdgeRecord) (floor : ℤ) → FitsWhole zone_shapes (edge_tree floor bush)
edges_fit bare floor =
    (record { shape = shape_of Zone; judgeable = record { known = refl; counted = refl; fit = refl }; joined = refl }, tt)
edges_fit (fork low e high) floor = (
  record { shape = shape_of EdgeKind; judgeable = record { known = refl; counted = refl; fit = refl }; joined = refl },
  (edges_fit low floor, (edges_fit high e.zone, tt)),
)

slab_fits : (edges : List EdgeRecord) (west : Option ℤ) → FitsWhole zone_shapes (slab_tree edges west)
slab_fits edges west = edges_fit (bush_of edges_before (slab_edges edges west)) _

run_fits : (edges : List EdgeRecord) (bush : Bush ℤ) (west : Option ℤ) → FitsWhole zone_shapes (run_tree edges west bush)
run_fits edges bare west = slab_fits edges west
run_fits edges (fork low x high) west = (
  record { shape = shape_of Split; judgeable = record { known = refl; counted = refl; fit = refl }; joined = refl },
  (run_fits edges low west, (run_fits edges high (Some x), tt)),
)

pub figure_fits : (edges : List EdgeRecord) → FitsWhole zone_shapes (zone_tree edges)
figure_fits edges = run_fits edges (bush_of bounds_before (bounds_of edges)) None

-- where the parts of each edge are in range, they are fit
pub tree_is_fit : (edges : List EdgeRecord) → AllByRecursion Parts edges → FitsWhole zone_judging (zone_tree edges)
tree_is_fit edges parts =
    run_tree_fits edges (slab_fits_lem edges parts) (bush_of bounds_before (bounds_of edges)) None
    (subst (AllByRecursion (λ x. is_coordinate x ≡ true)) (sym (elements_of bounds_before bounds_halve (bounds_of edges)))
    (all_bounds (λ x. is_coordinate x ≡ true) edges (All-weaker Parts (λ e. (is_coordinate e.x1 ≡ true) × (is_coordinate e.x2 ≡ true)) (λ e part. (part.x1, part.x2)) edges parts)))
