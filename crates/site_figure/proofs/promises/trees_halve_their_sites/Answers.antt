use Rattle.site_figure.proofs.Holding.{trees_halve}
use Rattle.site_figure.proofs.promises.trees_halve_their_sites.Goals as goal

pub returns : goal.returns
returns c = trees_halve
