use Rattle.site_figure.proofs.Holding.{figures_have_few_levels, few_wait_lem}
use Rattle.site_figure.proofs.promises.few_wait.Goals as goal

pub returns : goal.returns
returns c = record { levels = figures_have_few_levels; waiting = few_wait_lem }
