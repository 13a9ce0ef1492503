use Rattle.std.proofs.Common.{pos, Err, sym, refl}
use Rattle.node.specs.declared.kind.Kind.TheVariants.{Edge}
use Rattle.node.specs.Kinds.{number_of}
use Rattle.search.proofs.Sequences.{passed_on}
use Rattle.search.proofs.Successors.{rose_alike, two_first, two_second, two_last}
use Rattle.zone_chart.specs.Contents.{crossed}
use Rattle.zone_chart.proofs.EdgeTrees.{numbers_of, below, above, tree_of_edges}
use Rattle.zone_chart.proofs.drawing.+draw_edges.Goals as goal

pub returns-in_err-below : goal.returns-in_err-below
returns-in_err-below t c =
    let floor = pos c.args.floor in
    let edges = c.args.edges.now in
    let at = c.edges_before-at.result in
    let middle = c.index-edges-at.result in
    let zone = middle.edge.zone in
    let tree = tree_of_edges floor edges at middle zone refl c.edges_before-at.ensures.place c.edges_before-at.ensures.inside c.index-edges-at.is in
    let told = two_first c.args.draft.now (number_of Edge) (numbers_of (crossed middle)) (below floor edges at middle) (above floor edges at middle zone) _ _ c.in_err-below.ensures in
    passed_on _ _ _ _ c.from_residual.result c.from_residual.ensures.1 (rose_alike c.args.draft.now _ (Err c.in_err-below.field-0.0) _ _ (sym tree) told)

pub returns-in_err-above : goal.returns-in_err-above
returns-in_err-above t c =
    let floor = pos c.args.floor in
    let edges = c.args.edges.now in
    let at = c.edges_before-at.result in
    let middle = c.index-edges-at.result in
    let zone = c.zone.result in
    let tree = tree_of_edges floor edges at middle zone c.zone.ensures c.edges_before-at.ensures.place c.edges_before-at.ensures.inside c.index-edges-at.is in
    let told = two_second c.args.draft.now (number_of Edge) (numbers_of (crossed middle)) (below floor edges at middle) (above floor edges at middle zone) c.draw_edges.new.draft c.in_ok-below.below c.in_ok-below.ensures _ _ c.in_err-above.ensures in
    passed_on _ _ _ _ c.from_residual-in_err-above.result c.from_residual-in_err-above.ensures.1 (rose_alike c.args.draft.now _ (Err c.in_err-above.field-0.0) _ _ (sym tree) told)

pub returns : goal.returns
returns t c =
    let floor = pos c.args.floor in
    let edges = c.args.edges.now in
    let at = c.edges_before-at.result in
    let middle = c.index-edges-at.result in
    let zone = c.zone.result in
    let tree = tree_of_edges floor edges at middle zone c.zone.ensures c.edges_before-at.ensures.place c.edges_before-at.ensures.inside c.index-edges-at.is in
    let told = two_last c.args.draft.now (number_of Edge) (numbers_of (crossed middle)) (below floor edges at middle) (above floor edges at middle zone) c.draw_edges.new.draft c.in_ok-below.below c.in_ok-below.ensures c.draw_edges-2.new.draft c.in_ok-above.above c.in_ok-above.ensures c.edge_record.result c.edge_record.ensures _ _ c.draw-2.ensures in
    rose_alike c.args.draft.now _ c.draw-2.result _ _ (sym tree) told
