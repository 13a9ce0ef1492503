-- The figure of a zone chart, and what drawing needs.
use Rattle.std.specs.Prelude.{ℕ, suc, ◌-◌, List, [], ◌∷◌, ℤ, Some, None, Option, unsigned_abs}
use Rattle.records.specs.declared.raw.EdgeRecord.{EdgeRecord}
use Rattle.records.specs.declared.raw.Point.{Point}
use Rattle.node.specs.declared.kind.Kind.TheVariants.{Split}
use Rattle.node.specs.Kinds.{number_of}
use Rattle.search.specs.Node.{Node}
use Rattle.search.specs.Drawing.{Drawing}
use Rattle.search.specs.Rose.{Rose, two}
use Rattle.search.specs.Making.{figure_of}
use Rattle.slabs.specs.Topmost.{zone_at}
use Rattle.zones.specs.Edges.{add_refusal}
use Rattle.zones.specs.Edges as edges
use Rattle.zone_figure.specs.Halving.{Bush, bare, fork, half, bush_of}
use Rattle.zone_figure.specs.Bounds.{bounds_of}
use Rattle.zone_figure.specs.Slab.{slab_tree}

-- A run of slabs is known by the west bound of its first slab and the bounds inside it: m bounds are between m + 1 slabs. The
-- first ⌈(m + 1)/2⌉ slabs are low, so the bounds before the split are one fewer.
abbrev pub bounds_before : ℕ → ℕ
bounds_before m = half (suc m) - 1

-- The tree of a run: that of its slab, if it is one; otherwise a split at the west bound of the first high slab.
abbrev pub run_tree : List EdgeRecord → Option ℤ → Bush ℤ → Rose
run_tree held west bare = slab_tree held west
run_tree held west (fork low x high) =
    two (number_of Split) (x ∷ []) (run_tree held west low) (run_tree held (Some x) high)

-- The tree of all slabs: the first lies west of every bound.
abbrev pub zone_tree : List EdgeRecord → Rose
zone_tree held = run_tree held None (bush_of bounds_before (bounds_of held))

abbrev pub zone_figure : List EdgeRecord → List Node
zone_figure held = figure_of (zone_tree held)

-- An answer is a list of one: the zone of the point.
abbrev pub zone_answer : List EdgeRecord → Point → List ℕ
zone_answer held p = unsigned_abs (zone_at held p.x p.y) ∷ []

abbrev pub zone_drawing : Drawing EdgeRecord Point
zone_drawing =
    record { number_of = edges.number_of; add_refusal = add_refusal; figure = zone_figure; answer = zone_answer }
