use Rattle.std.proofs.Common.{◌≡◌, pos, Some, None, Ok, Option, sym, ap, ◌∙◌, rules}
use Rattle.std.specs.Option.{option_map}
use Rattle.std.proofs.lemmas.Bool.{cond-true}
use Rattle.refusal.specs.declared.Refusal.{Refusal}
use Rattle.refusal.specs.declared.Refusal.TheVariants.{QuestionOutOfBounds}
use Rattle.records.specs.declared.raw.Point.{Point}
use Rattle.records.specs.Outcome.{answered}
use Rattle.records.specs.Positions.{is_position, point_of}
use Rattle.records.proofs.Kept.{chosen}
use Rattle.geometry.specs.Held.{raw_of}
use Rattle.slabs.specs.Topmost.{zone_above, zone_at}
use Rattle.zones.specs.Question.{question_refusal}
use Rattle.zones.specs.Register.{held}
use Rattle.zones.proofs.register.ZoneRegister.zone_of.Goals as goal

pub returns : goal.returns
returns c =
    let q = c.args.question.now in
    let edges = held c.args.self.now in
    let point = chosen (is_position q) (point_of c.in-Some.position) q c.in-Some.ensures in
    let accepted : question_refusal q ≡ None = cond-true _ None (Some QuestionOutOfBounds) point.0 in
    let above : pos c.map_or.result ≡ zone_above (option_map raw_of c.topmost_under.result) = search rules in
    let zone = above ∙ ap zone_above c.topmost_under.ensures ∙ ap (λ (p : Point). zone_at edges p.x p.y) point.1 in
    ap Ok zone ∙ ap (λ (o : Option Refusal). answered o (zone_at edges q.x q.y)) (sym accepted)
