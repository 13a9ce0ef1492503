use Rattle.std.proofs.Common.{refl}
use Rattle.zone_figure.proofs.promises.zone_trees_are_sound.Goals as goal
use Rattle.zone_figure.specs.Slab.{edges_before}
use Rattle.zone_figure.specs.Figure.{bounds_before}
use Rattle.zone_figure.proofs.Halving.{edges_halve, bounds_halve, is_halved}
use Rattle.zone_figure.proofs.Figures.{zone_trees_are_fit, zone_trees_are_low}

pub returns : goal.returns
returns c = record { halved = record { slabs = is_halved bounds_before bounds_halve; edges = is_halved edges_before edges_halve }; fit = zone_trees_are_fit; low = zone_trees_are_low; worked = refl }
