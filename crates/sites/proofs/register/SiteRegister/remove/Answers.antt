use Rattle.std.proofs.Common.{ℤ, Option, ap, ◌∙◌, w64, to_z, of_z}
use Rattle.std.proofs.lemmas.Int.{to_z-of_z}
use Rattle.refusal.specs.declared.Refusal.{Refusal}
use Rattle.slices.specs.Runs.{elements}
use Rattle.records.specs.Held.{remove_refusal, taken_out}
use Rattle.records.specs.Outcome.{answered, unless_refused}
use Rattle.records.proofs.Removing.{refusal_read, removal_read}
use Rattle.sites.specs.Site.{number_of, raw_of}
use Rattle.sites.specs.Register.{held}
use Rattle.sites.proofs.register.SiteRegister.remove.Goals as goal

pub returns : goal.returns
returns c =
    let n = to_z w64 (of_z w64 c.args.number) in
    let same = to_z-of_z w64 c.args.number c.ranges.number in
    let sites = elements c.args.self.now.sites in
    let rs = held c.args.self.now in
    record {
      answer =
          c.take_out_of_run.ensures.answer
          ∙ ap (λ (o : Option Refusal). answered o (tt {0})) (refusal_read raw_of number_of n sites ∙ ap (remove_refusal number_of rs) same);
      after =
          removal_read raw_of number_of n sites (elements c.take_out_of_run.new.kept) c.take_out_of_run.ensures.after
          ∙ ap (λ (m : ℤ). unless_refused (remove_refusal number_of rs m) (taken_out number_of m rs) rs) same;
    }
