use Rattle.site_figure.proofs.Lawful.{sites_are_lawful_lem}
use Rattle.site_figure.proofs.promises.sites_are_lawful.Goals as goal

pub returns : goal.returns
returns c = sites_are_lawful_lem
