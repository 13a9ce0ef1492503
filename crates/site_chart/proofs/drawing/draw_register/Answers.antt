use Rattle.std.proofs.Common.{List, ap, ◌∙◌}
use Rattle.records.specs.declared.raw.SiteRecord.{SiteRecord}
use Rattle.slices.specs.Order.{sorted}
use Rattle.search.proofs.Successors.{rose_alike}
use Rattle.site_figure.specs.Halving.{tree_of}
use Rattle.site_figure.specs.Figure.{by_x, x_rose}
use Rattle.site_chart.specs.Along.{records_along}
use Rattle.site_chart.proofs.drawing.draw_register.Goals as goal

pub returns : goal.returns
returns c =
    let held = ap records_along c.as_slice-sites.ensures.elements ∙ c.sorted_along-run.ensures ∙ ap (sorted by_x) c.sites.ensures.held in
    rose_alike c.args.draft.now c.draw_tree.new.draft c.draw_tree.result _ _ (ap (λ (l : List SiteRecord). x_rose (tree_of l)) held) c.draw_tree.ensures
