use Rattle.std.proofs.Common.{◌≡◌, ◌≤◌, length, ◌∙◌, arith}
use Rattle.sites.specs.Site.{raw_of}
use Rattle.search.proofs.Sequences.{passed_on}
use Rattle.site_figure.specs.Halving.{half}
use Rattle.site_figure.specs.Figure.{span_of}
use Rattle.site_chart.proofs.DrawnTrees.{lesser_refused, greater_refused, span_drawn}
use Rattle.site_chart.proofs.drawing.+draw_tree.Goals as goal

pub returns-in_err-left-in_default : goal.returns-in_err-left-in_default
returns-in_err-left-in_default g t c =
    let draft = c.args.draft.now in
    let sites = c.args.row.now.sites.now in
    let many : 2 ≤ length sites = omega arith in
    let parted : c.div_ceil.result ≡ half (length sites) = c.div_ceil.ensures ∙ omega arith in
    let e = c.in_err-left-in_default.field-0.0 in
    passed_on draft _ _ e c.from_residual.result c.from_residual.ensures.1
    (lesser_refused (λ s. raw_of s.site) sites _ _ many c.div_ceil.result parted c.split_at.ensures.front c.split_at.ensures.back g.A.TreeAxis.rose g.A.TreeAxis.kind (span_of g.A.Axis.coordinate) g.A.TreeAxis.besides g.met.A.TreeAxis.of_both draft _ e c.in_err-left-in_default.ensures)

pub returns-in_err-right-in_default : goal.returns-in_err-right-in_default
returns-in_err-right-in_default g t c =
    let draft = c.args.draft.now in
    let sites = c.args.row.now.sites.now in
    let many : 2 ≤ length sites = omega arith in
    let parted : c.div_ceil.result ≡ half (length sites) = c.div_ceil.ensures ∙ omega arith in
    let e = c.in_err-right-in_default.field-0.0 in
    passed_on draft _ _ e c.from_residual-in_err-right-in_default.result c.from_residual-in_err-right-in_default.ensures.1
    (greater_refused (λ s. raw_of s.site) sites _ _ many c.div_ceil.result parted c.split_at.ensures.front c.split_at.ensures.back g.A.TreeAxis.rose g.A.TreeAxis.kind (span_of g.A.Axis.coordinate) g.A.TreeAxis.besides g.met.A.TreeAxis.of_both draft _ c.in_ok-left-in_default.left c.in_ok-left-in_default.ensures _ e c.in_err-right-in_default.ensures)

pub returns-in_ok-right-in_default : goal.returns-in_ok-right-in_default
returns-in_ok-right-in_default g t c =
    let sites = c.args.row.now.sites.now in
    let many : 2 ≤ length sites = omega arith in
    let parted : c.div_ceil.result ≡ half (length sites) = c.div_ceil.ensures ∙ omega arith in
    span_drawn (λ s. raw_of s.site) sites _ _ many c.div_ceil.result parted c.split_at.ensures.front c.split_at.ensures.back g.A.TreeAxis.rose g.A.TreeAxis.kind (span_of g.A.Axis.coordinate) g.A.TreeAxis.besides g.met.A.TreeAxis.of_both c.args.draft.now _ c.in_ok-left-in_default.left c.in_ok-left-in_default.ensures _ c.in_ok-right-in_default.right c.in_ok-right-in_default.ensures _ c.draw_span.result c.draw_span.ensures
