use Rattle.std.proofs.Common.{map, take, Option, ap, ◌∙◌}
use Rattle.records.specs.declared.raw.EdgeRecord.{EdgeRecord}
use Rattle.std.specs.Option.{option_map}
use Rattle.geometry.specs.Held.{raw_of}
use Rattle.slabs.specs.Topmost.{higher, is_under, topmost, under}
use Rattle.zones.proofs.Looking.{one_more_under, one_more_over}
use Rattle.zones.proofs.register.ZoneRegister.topmost_under.Goals as goal
use Rattle.zones.proofs.register.ZoneRegister.topmost_under.Goals.{then-is_under, else-is_under}

pub loop-edge-preserved : goal.loop-edge-preserved
loop-edge-preserved c =
    let edges = c.edges-edge-items.result.now in
    let i = c.loop-edge.edge-index in
    let edge = c.edge-item.result in
    let x = c.args.position.x.value in
    let y = c.args.position.y.value in
    let so_far = topmost x (under x y (map raw_of (take i edges))) in
    elim c.if-is_under.branch [ then-is_under w ↦ ap (option_map raw_of) w.best-is ∙ w.higher_of.ensures ∙ ap (λ (o : Option EdgeRecord). higher x o (raw_of edge)) c.loop-edge.invariant ∙ ap (λ e. higher x so_far (raw_of e)) c.edge-item.is ∙ one_more_under x y edges i edge c.loop-edge-test.true (w.if-is_under.ensures ∙ ap (λ e. is_under x y (raw_of e)) c.edge-item.is) | else-is_under w ↦ ap (option_map raw_of) w.best-is ∙ c.loop-edge.invariant ∙ one_more_over x y edges i edge c.loop-edge-test.true (w.if-is_under.ensures ∙ ap (λ e. is_under x y (raw_of e)) c.edge-item.is) ]
