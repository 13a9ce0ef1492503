use Rattle.std.proofs.Common.{◌≡◌, Some, Option, sym, ap}
use Rattle.refusal.specs.declared.Refusal.{Refusal}
use Rattle.records.proofs.Outcome.{refused}
use Rattle.script.specs.Lines.{ended}
use Rattle.sites.specs.Question.{question_refusal, sites_in}
use Rattle.sites.specs.Register.{held}
use Rattle.chart.specs.Session.{sites_line}
use Rattle.chart.proofs.Printing.{retold, standing}
use Rattle.chart.proofs.session.Session.answer_sites.Goals as goal

pub returns-in-Err : goal.returns-in-Err
returns-in-Err c =
    let numbers = sites_in (held c.args.self.now.sites) c.args.rectangle.now in
    let why : question_refusal c.args.rectangle.now ≡ Some c.in-Err.refusal = refused _ _ _ c.in-Err.ensures in
    retold c.write_reply.result _ _ _ _ (ap (λ (o : Option Refusal). ended (sites_line o numbers)) (sym why)) (standing _ _ c.write_reply.result _ c.write_reply.ensures)
