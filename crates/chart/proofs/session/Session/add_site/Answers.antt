use Rattle.std.proofs.Common.{ℤ, Result, ap, ◌∙◌, w64, SFits, rules}
use Rattle.std.proofs.lemmas.Int.{to_z-of_z}
use Rattle.refusal.specs.declared.Refusal.{Refusal}
use Rattle.script.specs.Lines.{ended, line_of}
use Rattle.script.specs.declared.reply.Reply.{Reply}
use Rattle.script.specs.declared.reply.Reply.TheVariants.{Added}
use Rattle.sites.specs.Site.{add_refusal}
use Rattle.sites.specs.Register.{held}
use Rattle.chart.specs.Session.{reply_of, state_of, with_sites}
use Rattle.chart.proofs.Printing.{retold, replied_is}
use Rattle.chart.proofs.session.Session.add_site.Goals as goal

pub returns : goal.returns
returns c =
    let s = c.args.self.now in
    let done = Added c.args.site.number in
    let number : SFits w64 c.args.site.number = search rules in
    let line =
    ap (λ (n : ℤ). ended (line_of (reply_of c.add-outcome.result (Added n)))) (to_z-of_z w64 c.args.site.number number) ∙ ap (λ (o : Result (Unit {0}) Refusal). ended (line_of (reply_of o done))) c.add-outcome.ensures.answer ∙ ap (λ (q : Reply). ended (line_of q)) (replied_is (add_refusal (held s.sites) c.args.site) done)
    in
    record { printed = retold c.write_outcome.result _ _ _ _ line c.write_outcome.ensures; left = ap (with_sites (state_of s)) c.add-outcome.ensures.after }
