use Rattle.std.proofs.Common.{Ok, Err, ap, ◌∙◌, rules}
use Rattle.std.proofs.lemmas.Result.{err_from_is_err_and}
use Rattle.search.proofs.Figures.{whole_counted, whole_refused, whole_leaves}
use Rattle.search.proofs.Shapes.{shapes_judge_well}
use Rattle.toy_chart.specs.Stones.{judging, rose_of, held}
use Rattle.toy_chart.specs.Lawful.{judges_well_lem}
use Rattle.toy_chart.proofs.Drawings.{stone_shapes, figure_fits}
use Rattle.toy_chart.proofs.StoneChartChart.draw.Goals as goal

pub returns-in_err-draw_stones-clause-answer : goal.returns-in_err-draw_stones-clause-answer
returns-in_err-draw_stones-clause-answer c =
    let chart = c.args.self.now in
    let fresh = c.new-draft.ensures in
    let q = err_from_is_err_and c.from_residual.result c.from_residual.ensures.1 in
    q.1 ∙ ap Err q.2 ∙ whole_refused stone_shapes (shapes_judge_well judging judges_well_lem) (rose_of (held chart)) (figure_fits chart.stone) c.args.sheet.now c.new-draft.result c.draw_stones.new.draft fresh.untouched fresh.none _ c.in_err-draw_stones.ensures

pub returns-in_err-draw_stones-clause-after : goal.returns-in_err-draw_stones-clause-after
returns-in_err-draw_stones-clause-after c =
    let chart = c.args.self.now in
    let fresh = c.new-draft.ensures in
    let same = c.draw_stones.ensures.same_sheet ∙ fresh.same_sheet in
    let whole = whole_leaves stone_shapes (shapes_judge_well judging judges_well_lem) (rose_of (held chart)) (figure_fits chart.stone) c.args.sheet.now c.new-draft.result c.draw_stones.new.draft fresh.untouched fresh.none _ c.in_err-draw_stones.ensures in
    search rules

pub returns-clause-answer : goal.returns-clause-answer
returns-clause-answer c =
    let chart = c.args.self.now in
    let fresh = c.new-draft.ensures in
    ap Ok c.len.ensures ∙ whole_counted stone_shapes (shapes_judge_well judging judges_well_lem) (rose_of (held chart)) (figure_fits chart.stone) c.args.sheet.now c.new-draft.result c.draw_stones.new.draft fresh.untouched fresh.none _ c.in_ok-draw_stones.ensures

pub returns-clause-after : goal.returns-clause-after
returns-clause-after c =
    let chart = c.args.self.now in
    let fresh = c.new-draft.ensures in
    let same = c.draw_stones.ensures.same_sheet ∙ fresh.same_sheet in
    let whole = whole_leaves stone_shapes (shapes_judge_well judging judges_well_lem) (rose_of (held chart)) (figure_fits chart.stone) c.args.sheet.now c.new-draft.result c.draw_stones.new.draft fresh.untouched fresh.none _ c.in_ok-draw_stones.ensures in
    search rules
