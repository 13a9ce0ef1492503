use Rattle.zone_figure.proofs.promises.zone_charts_are_lawful.Goals as goal
use Rattle.zone_figure.proofs.Figures.{zone_charts_are_lawful_lem}

pub returns : goal.returns
returns c = zone_charts_are_lawful_lem
