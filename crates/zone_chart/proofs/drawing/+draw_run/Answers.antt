use Rattle.std.proofs.Common.{[], ◌∷◌, Err, sym}
use Rattle.node.specs.declared.kind.Kind.TheVariants.{Split}
use Rattle.node.specs.Kinds.{number_of}
use Rattle.zones.specs.Register.{held}
use Rattle.search.proofs.Sequences.{passed_on}
use Rattle.search.proofs.Successors.{rose_alike, two_first, two_second, two_last}
use Rattle.zone_chart.specs.Contents.{value_of, west_of}
use Rattle.zone_chart.proofs.RunTrees.{tree_of_run, low_slabs, high_slabs}
use Rattle.zone_chart.proofs.drawing.+draw_run.Goals as goal

pub returns-in_err-low : goal.returns-in_err-low
returns-in_err-low t c =
    let edges = held c.args.register.now in
    let west = west_of c.args.west in
    let bounds = c.args.bounds.now in
    let at = c.bounds_before-at.result in
    let bound = c.index-bounds-at.result in
    let tree = tree_of_run edges west bounds at bound c.bounds_before-at.ensures.place c.bounds_before-at.ensures.inside c.index-bounds-at.is in
    let told = two_first c.args.draft.now (number_of Split) (value_of bound ∷ []) (low_slabs edges west bounds at) (high_slabs edges bounds at bound) _ _ c.in_err-low.ensures in
    passed_on _ _ _ _ c.from_residual.result c.from_residual.ensures.1 (rose_alike c.args.draft.now _ (Err c.in_err-low.field-0.0) _ _ (sym tree) told)

pub returns-in_err-high : goal.returns-in_err-high
returns-in_err-high t c =
    let edges = held c.args.register.now in
    let west = west_of c.args.west in
    let bounds = c.args.bounds.now in
    let at = c.bounds_before-at.result in
    let bound = c.index-bounds-at.result in
    let tree = tree_of_run edges west bounds at bound c.bounds_before-at.ensures.place c.bounds_before-at.ensures.inside c.index-bounds-at.is in
    let told = two_second c.args.draft.now (number_of Split) (value_of bound ∷ []) (low_slabs edges west bounds at) (high_slabs edges bounds at bound) c.draw_run.new.draft c.in_ok-low.low c.in_ok-low.ensures _ _ c.in_err-high.ensures in
    passed_on _ _ _ _ c.from_residual-in_err-high.result c.from_residual-in_err-high.ensures.1 (rose_alike c.args.draft.now _ (Err c.in_err-high.field-0.0) _ _ (sym tree) told)

pub returns : goal.returns
returns t c =
    let edges = held c.args.register.now in
    let west = west_of c.args.west in
    let bounds = c.args.bounds.now in
    let at = c.bounds_before-at.result in
    let bound = c.index-bounds-at.result in
    let tree = tree_of_run edges west bounds at bound c.bounds_before-at.ensures.place c.bounds_before-at.ensures.inside c.index-bounds-at.is in
    let told = two_last c.args.draft.now (number_of Split) (value_of bound ∷ []) (low_slabs edges west bounds at) (high_slabs edges bounds at bound) c.draw_run.new.draft c.in_ok-low.low c.in_ok-low.ensures c.draw_run-2.new.draft c.in_ok-high.high c.in_ok-high.ensures c.split_record.result c.split_record.ensures _ _ c.draw.ensures in
    rose_alike c.args.draft.now _ c.draw.result _ _ (sym tree) told
