use Rattle.std.proofs.Common.{◌≡◌, true, subst}
use Rattle.std.specs.List.{AllByRecursion}
use Rattle.std.proofs.ByRecursion.{All-weaker}
use Rattle.search.proofs.Walking.{roses_make_figures}
use Rattle.geometry.specs.Edge.{is_edge}
use Rattle.zones.specs.Register.{held}
use Rattle.zone_figure.specs.Figure.{zone_tree}
use Rattle.zone_figure.specs.Judge.{zone_judging}
use Rattle.zone_figure.proofs.Fitness.{Parts, parts_of}
use Rattle.zone_chart.proofs.HeldEdges.{tree_is_fit}
use Rattle.zone_chart.proofs.drawn.ZoneChartDrawnChart.show_drawn.Goals as goal

pub returns : goal.returns
returns c =
    let edges = held c.args.self.now.register in
    let all = subst (AllByRecursion (λ r. is_edge r ≡ true)) c.edges.ensures.held c.read_numbers.ensures in
    roses_make_figures zone_judging (zone_tree edges) (tree_is_fit edges (All-weaker (λ r. is_edge r ≡ true) Parts parts_of edges all))
