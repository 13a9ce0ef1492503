use Rattle.site_figure.proofs.Holding.{visits_are_short_lem}
use Rattle.site_figure.proofs.promises.visits_are_short.Goals as goal

pub returns : goal.returns
returns c = visits_are_short_lem
