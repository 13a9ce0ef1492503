use Rattle.std.proofs.Common.{◌≡◌, true, subst}
use Rattle.std.specs.List.{AllByRecursion}
use Rattle.search.proofs.Walking.{roses_make_figures}
use Rattle.sites.specs.Register.{held}
use Rattle.sites.specs.Site.{is_site}
use Rattle.site_figure.specs.Figure.{x_tree}
use Rattle.site_figure.specs.Judge.{site_judging}
use Rattle.site_figure.proofs.Fitness.{figure_fits}
use Rattle.site_chart.proofs.drawn.SiteChartDrawnChart.show_drawn.Goals as goal

pub returns : goal.returns
returns c =
    let register = c.args.self.now.register in
    roses_make_figures site_judging (x_tree (held register)) (figure_fits (held register) (subst (AllByRecursion (λ r. is_site r ≡ true)) c.sites.ensures.held c.read_numbers.ensures))
