use Rattle.std.proofs.Common.{ℕ, List, ◌∷◌, [], ℤ, ap, ◌∙◌, w32, SFits, rules}
use Rattle.std.proofs.lemmas.Int.{to_z-of_z}
use Rattle.search.specs.declared.sheet.SheetRecord.{SheetRecord}
use Rattle.search.specs.Sheet.{record_of}
use Rattle.site_figure.specs.Figure.{span_of, y_tree}
use Rattle.site_chart.specs.Along.{records_along}
use Rattle.site_chart.proofs.Halves.{besides_drawn}
use Rattle.site_chart.proofs.trees.XTreeAxis.draw_span.Goals as goal

pub returns : goal.returns
returns c =
    let sites = records_along c.args.row.now.sites.now in
    let span = c.span_of-least in
    let across = c.in_ok-across.across in
    let least_fits : SFits w32 span.result.least = search rules in
    let greatest_fits : SFits w32 span.result.greatest = search rules in
    let node : ℕ → List ℤ → SheetRecord = λ kind numbers. record_of (record { kind = kind; numbers = numbers; successors = c.args.left ∷ c.args.right ∷ across ∷ [] }) in
    let is = c.of_node.ensures ∙ (λ i. node (c.from.ensures i) (to_z-of_z w32 _ least_fits i ∷ to_z-of_z w32 _ greatest_fits i ∷ [])) ∙ ap (node 4) span.ensures in
    besides_drawn 4 (span_of (λ s. s.x) sites) c.args.left c.args.right (y_tree sites) c.args.draft.now c.draw_across.new.draft across c.in_ok-across.ensures _ is c.draw.new.self c.draw.result c.draw.ensures
