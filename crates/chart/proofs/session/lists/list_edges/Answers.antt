use Rattle.std.proofs.Common.{vec_items}
use Rattle.zones.specs.Register.{held}
use Rattle.script.specs.Lines.{ended, line_of_edge}
use Rattle.chart.proofs.Printing.{next_listed, whole_listed}
use Rattle.chart.proofs.session.lists.list_edges.Goals as goal

pub loop-edge-preserved : goal.loop-edge-preserved
loop-edge-preserved c =
    next_listed _ (λ r. ended (line_of_edge r)) c.edges-edge-items.result.now (held c.args.register.now) c.loop-edge.edge-index c.edge-item.result c.raw.result (vec_items c.args.out.now) (vec_items c.loop-edge.out) _ c.edges-edge-items.ensures.held c.loop-edge-test.true c.edge-item.is c.raw.ensures c.loop-edge.invariant c.in_ok-write_reply.ensures.items

pub returns : goal.returns
returns c =
    whole_listed _ (λ r. ended (line_of_edge r)) c.edges-edge-items.result.now (held c.args.register.now) c.loop-edge.edge-index (vec_items c.args.out.now) (vec_items c.loop-edge.out) c.edges-edge-items.ensures.held c.loop-edge-test.false c.loop-edge.invariant
