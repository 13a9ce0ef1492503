use Rattle.search.proofs.Figures.{drafts_are_figures_lem}
use Rattle.search.proofs.promises.drafts_are_figures.Goals as goal

pub returns : goal.returns
returns g c = drafts_are_figures_lem g.C.Chart.judging
