use Rattle.zone_figure.proofs.promises.zone_figures_are_small.Goals as goal
use Rattle.zone_figure.proofs.Counting.{zone_figures_are_small_lem, sheets_suffice}

pub returns : goal.returns
returns c = record { small = zone_figures_are_small_lem; room = sheets_suffice }
