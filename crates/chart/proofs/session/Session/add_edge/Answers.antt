use Rattle.std.proofs.Common.{ℤ, Result, ap, ◌∙◌, w64, SFits, rules}
use Rattle.std.proofs.lemmas.Int.{to_z-of_z}
use Rattle.refusal.specs.declared.Refusal.{Refusal}
use Rattle.script.specs.Lines.{ended, line_of}
use Rattle.script.specs.declared.reply.Reply.{Reply}
use Rattle.script.specs.declared.reply.Reply.TheVariants.{Added}
use Rattle.zones.specs.Edges.{add_refusal}
use Rattle.zones.specs.Register.{held}
use Rattle.chart.specs.Session.{reply_of, state_of, with_edges}
use Rattle.chart.proofs.Printing.{retold, replied_is}
use Rattle.chart.proofs.session.Session.add_edge.Goals as goal

pub returns : goal.returns
returns c =
    let s = c.args.self.now in
    let done = Added c.args.edge.number in
    let number : SFits w64 c.args.edge.number = search rules in
    let line =
    ap (λ (n : ℤ). ended (line_of (reply_of c.add-outcome.result (Added n)))) (to_z-of_z w64 c.args.edge.number number) ∙ ap (λ (o : Result (Unit {0}) Refusal). ended (line_of (reply_of o done))) c.add-outcome.ensures.answer ∙ ap (λ (q : Reply). ended (line_of q)) (replied_is (add_refusal (held s.edges) c.args.edge) done)
    in
    record { printed = retold c.write_outcome.result _ _ _ _ line c.write_outcome.ensures; left = ap (with_edges (state_of s)) c.add-outcome.ensures.after }
