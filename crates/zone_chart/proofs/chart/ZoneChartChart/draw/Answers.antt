use Rattle.std.proofs.Common.{Ok, Err, ap, ◌∙◌, rules}
use Rattle.std.proofs.lemmas.Result.{err_from_is_err_and}
use Rattle.zones.specs.Register.{held}
use Rattle.search.proofs.Figures.{whole_counted, whole_refused, whole_leaves}
use Rattle.search.proofs.Shapes.{shapes_judge_well}
use Rattle.zone_figure.specs.Judge.{zone_judging}
use Rattle.zone_figure.specs.Figure.{zone_tree}
use Rattle.zone_figure.proofs.JudgesWell.{judges_well_lem}
use Rattle.zone_chart.proofs.HeldEdges.{zone_shapes, figure_fits}
use Rattle.zone_chart.proofs.chart.ZoneChartChart.draw.Goals as goal

pub returns-in_err-draw_zones-clause-answer : goal.returns-in_err-draw_zones-clause-answer
returns-in_err-draw_zones-clause-answer c =
    let edges = held c.args.self.now.register in
    let fresh = c.new-draft.ensures in
    let e = c.in_err-draw_zones.field-0.0 in
    let q = err_from_is_err_and c.from_residual.result c.from_residual.ensures.1 in
    q.1 ∙ ap Err q.2 ∙ whole_refused zone_shapes (shapes_judge_well zone_judging judges_well_lem) (zone_tree edges) (figure_fits edges) c.args.sheet.now c.new-draft.result c.draw_zones.new.draft fresh.untouched fresh.none e c.in_err-draw_zones.ensures

pub returns-in_err-draw_zones-clause-after : goal.returns-in_err-draw_zones-clause-after
returns-in_err-draw_zones-clause-after c =
    let edges = held c.args.self.now.register in
    let fresh = c.new-draft.ensures in
    let same = c.draw_zones.ensures.same_sheet ∙ fresh.same_sheet in
    let whole = whole_leaves zone_shapes (shapes_judge_well zone_judging judges_well_lem) (zone_tree edges) (figure_fits edges) c.args.sheet.now c.new-draft.result c.draw_zones.new.draft fresh.untouched fresh.none _ c.in_err-draw_zones.ensures in
    search rules

pub returns-clause-answer : goal.returns-clause-answer
returns-clause-answer c =
    let edges = held c.args.self.now.register in
    let fresh = c.new-draft.ensures in
    ap Ok c.len.ensures ∙ whole_counted zone_shapes (shapes_judge_well zone_judging judges_well_lem) (zone_tree edges) (figure_fits edges) c.args.sheet.now c.new-draft.result c.draw_zones.new.draft fresh.untouched fresh.none _ c.in_ok-draw_zones.ensures

pub returns-clause-after : goal.returns-clause-after
returns-clause-after c =
    let edges = held c.args.self.now.register in
    let fresh = c.new-draft.ensures in
    let same = c.draw_zones.ensures.same_sheet ∙ fresh.same_sheet in
    let whole = whole_leaves zone_shapes (shapes_judge_well zone_judging judges_well_lem) (zone_tree edges) (figure_fits edges) c.args.sheet.now c.new-draft.result c.draw_zones.new.draft fresh.untouched fresh.none _ c.in_ok-draw_zones.ensures in
    search rules
