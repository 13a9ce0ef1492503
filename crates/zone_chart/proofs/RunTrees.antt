-- The tree of a run of slabs: that of its slab, or a split with the trees of the low slabs and of the high ones.
use Rattle.std.proofs.Common.{◌≡◌, ℕ, ◌+◌, ◌<◌, List, [], ◌∷◌, map, length, get_or, take, ℤ, Some, Option, ap}
use Rattle.records.specs.declared.raw.EdgeRecord.{EdgeRecord}
use Rattle.node.specs.declared.kind.Kind.TheVariants.{Split}
use Rattle.node.specs.Kinds.{number_of}
use Rattle.search.specs.Rose.{Rose, two}
use Rattle.zone_figure.specs.Halving.{bush_of}
use Rattle.zone_figure.specs.Figure.{bounds_before, run_tree}
use Rattle.zone_figure.proofs.Halving.{bounds_halve}
use Rattle.zone_chart.specs.declared.bounds.Bound.{Bound}
use Rattle.zone_chart.specs.Contents.{value_of}
use Rattle.zone_chart.proofs.Halved.{from, map_halved}

module _ (held : List EdgeRecord) where
  abbrev pub tree_from : Option ℤ → List Bound → Rose
  tree_from west bounds = run_tree held west (bush_of bounds_before (map value_of bounds))

  abbrev pub low_slabs : Option ℤ → List Bound → ℕ → Rose
  low_slabs west bounds at = tree_from west (take at bounds)

  abbrev pub high_slabs : List Bound → ℕ → Bound → Rose
  high_slabs bounds at bound = tree_from (Some (value_of bound)) (from (at + 1) bounds)

  pub tree_of_run : (west : Option ℤ) (bounds : List Bound) (at : ℕ) (bound : Bound) → at ≡ bounds_before (length bounds) → at < length bounds → bound ≡ get_or bounds at bound
      → tree_from west bounds ≡ two (number_of Split) (value_of bound ∷ []) (low_slabs west bounds at) (high_slabs bounds at bound)
  tree_of_run west bounds at bound is inside read =
      ap (run_tree held west) (map_halved bounds_before bounds_halve value_of bounds at bound is inside read)
