use Rattle.std.proofs.Common.{vec_items}
use Rattle.sites.specs.Register.{held}
use Rattle.script.specs.Lines.{ended, line_of_site}
use Rattle.chart.proofs.Printing.{next_listed, whole_listed}
use Rattle.chart.proofs.session.lists.list_sites.Goals as goal

pub loop-site-preserved : goal.loop-site-preserved
loop-site-preserved c =
    next_listed _ (λ r. ended (line_of_site r)) c.sites-site-items.result.now (held c.args.register.now) c.loop-site.site-index c.site-item.result c.raw.result (vec_items c.args.out.now) (vec_items c.loop-site.out) _ c.sites-site-items.ensures.held c.loop-site-test.true c.site-item.is c.raw.ensures c.loop-site.invariant c.in_ok-write_reply.ensures.items

pub returns : goal.returns
returns c =
    whole_listed _ (λ r. ended (line_of_site r)) c.sites-site-items.result.now (held c.args.register.now) c.loop-site.site-index (vec_items c.args.out.now) (vec_items c.loop-site.out) c.sites-site-items.ensures.held c.loop-site-test.false c.loop-site.invariant
