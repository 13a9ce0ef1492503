use Rattle.site_figure.proofs.Holding.{figures_are_fit_lem}
use Rattle.site_figure.proofs.promises.figures_are_fit.Goals as goal

pub returns : goal.returns
returns c = figures_are_fit_lem
