use Rattle.std.proofs.Common.{Ok, Err, ap, ◌∙◌, rules}
use Rattle.std.proofs.lemmas.Result.{err_from_is_err_and}
use Rattle.sites.specs.Register.{held}
use Rattle.search.proofs.Figures.{whole_counted, whole_refused, whole_leaves}
use Rattle.search.proofs.Shapes.{shapes_judge_well}
use Rattle.site_figure.specs.Judge.{site_judging}
use Rattle.site_figure.specs.Figure.{x_tree}
use Rattle.site_figure.proofs.Judges.{judges_well_lem}
use Rattle.site_chart.proofs.HeldSites.{site_shapes, figure_fits}
use Rattle.site_chart.proofs.chart.SiteChartChart.draw.Goals as goal

pub returns-in_err-draw_register-clause-answer : goal.returns-in_err-draw_register-clause-answer
returns-in_err-draw_register-clause-answer c =
    let sites = held c.args.self.now.register in
    let fresh = c.new-draft.ensures in
    let e = c.in_err-draw_register.field-0.0 in
    let q = err_from_is_err_and c.from_residual.result c.from_residual.ensures.1 in
    q.1 ∙ ap Err q.2 ∙ whole_refused site_shapes (shapes_judge_well site_judging judges_well_lem) (x_tree sites) (figure_fits sites) c.args.sheet.now c.new-draft.result c.draw_register.new.draft fresh.untouched fresh.none e c.in_err-draw_register.ensures

pub returns-in_err-draw_register-clause-after : goal.returns-in_err-draw_register-clause-after
returns-in_err-draw_register-clause-after c =
    let sites = held c.args.self.now.register in
    let fresh = c.new-draft.ensures in
    let same = c.draw_register.ensures.same_sheet ∙ fresh.same_sheet in
    let whole = whole_leaves site_shapes (shapes_judge_well site_judging judges_well_lem) (x_tree sites) (figure_fits sites) c.args.sheet.now c.new-draft.result c.draw_register.new.draft fresh.untouched fresh.none _ c.in_err-draw_register.ensures in
    search rules

pub returns-clause-answer : goal.returns-clause-answer
returns-clause-answer c =
    let sites = held c.args.self.now.register in
    let fresh = c.new-draft.ensures in
    ap Ok c.len.ensures ∙ whole_counted site_shapes (shapes_judge_well site_judging judges_well_lem) (x_tree sites) (figure_fits sites) c.args.sheet.now c.new-draft.result c.draw_register.new.draft fresh.untouched fresh.none _ c.in_ok-draw_register.ensures

pub returns-clause-after : goal.returns-clause-after
returns-clause-after c =
    let sites = held c.args.self.now.register in
    let fresh = c.new-draft.ensures in
    let same = c.draw_register.ensures.same_sheet ∙ fresh.same_sheet in
    let whole = whole_leaves site_shapes (shapes_judge_well site_judging judges_well_lem) (x_tree sites) (figure_fits sites) c.args.sheet.now c.new-draft.result c.draw_register.new.draft fresh.untouched fresh.none _ c.in_ok-draw_register.ensures in
    search rules
