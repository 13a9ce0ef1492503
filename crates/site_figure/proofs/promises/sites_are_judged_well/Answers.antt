use Rattle.site_figure.proofs.Judges.{judges_well_lem}
use Rattle.site_figure.proofs.promises.sites_are_judged_well.Goals as goal

pub returns : goal.returns
returns c = judges_well_lem
