use Rattle.site_figure.proofs.Emissions.{figure_told}
use Rattle.site_figure.proofs.promises.visits_tell_the_sites_inside.Goals as goal

pub returns : goal.returns
returns c = λ sites q. figure_told q sites
