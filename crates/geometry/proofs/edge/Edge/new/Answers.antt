use Rattle.std.proofs.Common.{ℤ, sym, ap, pos, None, refl, ◌∙◌, w64, SFits, rules}
use Rattle.std.proofs.lemmas.Bool.{both_ways}
use Rattle.records.specs.Range.{is_coordinate, is_record_number, is_zone}
use Rattle.geometry.proofs.Accepted.{kept, dropped, refused, accepted, below_test, same_record}
use lib.Signed.{lt_z}
use Rattle.geometry.proofs.Comparing.{below, not_below}
use Rattle.geometry.proofs.edge.Edge.new.Goals as goal

pub returns-in_err-x1 : goal.returns-in_err-x1
returns-in_err-x1 c =
    let fits : SFits w64 c.args.raw.x1 = search rules in
    refused c.args.raw c.from_residual-in_err-x1.result c.from_residual-in_err-x1.ensures (λ p. both_ways _ (dropped is_coordinate c.args.raw.x1 fits c.in_err-x1.ensures) p.x1)

pub returns-in_err-y1 : goal.returns-in_err-y1
returns-in_err-y1 c =
    let fits : SFits w64 c.args.raw.y1 = search rules in
    refused c.args.raw c.from_residual-in_err-y1.result c.from_residual-in_err-y1.ensures (λ p. both_ways _ (dropped is_coordinate c.args.raw.y1 fits c.in_err-y1.ensures) p.y1)

pub returns-in_err-x2 : goal.returns-in_err-x2
returns-in_err-x2 c =
    let fits : SFits w64 c.args.raw.x2 = search rules in
    refused c.args.raw c.from_residual-in_err-x2.result c.from_residual-in_err-x2.ensures (λ p. both_ways _ (dropped is_coordinate c.args.raw.x2 fits c.in_err-x2.ensures) p.x2)

pub returns-in_err-y2 : goal.returns-in_err-y2
returns-in_err-y2 c =
    let fits : SFits w64 c.args.raw.y2 = search rules in
    refused c.args.raw c.from_residual-in_err-y2.result c.from_residual-in_err-y2.ensures (λ p. both_ways _ (dropped is_coordinate c.args.raw.y2 fits c.in_err-y2.ensures) p.y2)

pub returns-in_err-zone : goal.returns-in_err-zone
returns-in_err-zone c =
    let fits : SFits w64 c.args.raw.zone = search rules in
    refused c.args.raw c.from_residual-in_err-zone.result c.from_residual-in_err-zone.ensures (λ p. both_ways _ (dropped is_zone c.args.raw.zone fits c.in_err-zone.ensures) p.zone)

pub returns-then-ge : goal.returns-then-ge
returns-then-ge c =
    let fits-x1 : SFits w64 c.args.raw.x1 = search rules in
    let x1 = kept is_coordinate c.args.raw.x1 c.in_ok-x1.x1.value fits-x1 c.in_ok-x1.ensures in
    let fits-x2 : SFits w64 c.args.raw.x2 = search rules in
    let x2 = kept is_coordinate c.args.raw.x2 c.in_ok-x2.x2.value fits-x2 c.in_ok-x2.ensures in
    refused c.args.raw None refl (λ p. not_below c.in_ok-x1.x1.value c.in_ok-x2.x2.value (sym c.ge.ensures ∙ c.if-ge.true) (ap (λ (z : ℤ). lt_z z c.in_ok-x2.x2.value) x1.1 ∙ ap (lt_z c.args.raw.x1) x2.1 ∙ p.wide))

pub invariant_of-result : goal.invariant_of-result
invariant_of-result c = record { west_to_east = below c.in_ok-x1.x1.value c.in_ok-x2.x2.value (sym c.ge.ensures ∙ c.if-ge.false) }

pub returns : goal.returns
returns c =
    let fits-number : SFits w64 c.args.raw.number = search rules in
    let number = kept is_record_number c.args.raw.number (pos c.in_ok-number.number.value) fits-number c.in_ok-number.ensures in
    let fits-x1 : SFits w64 c.args.raw.x1 = search rules in
    let x1 = kept is_coordinate c.args.raw.x1 c.in_ok-x1.x1.value fits-x1 c.in_ok-x1.ensures in
    let fits-y1 : SFits w64 c.args.raw.y1 = search rules in
    let y1 = kept is_coordinate c.args.raw.y1 c.in_ok-y1.y1.value fits-y1 c.in_ok-y1.ensures in
    let fits-x2 : SFits w64 c.args.raw.x2 = search rules in
    let x2 = kept is_coordinate c.args.raw.x2 c.in_ok-x2.x2.value fits-x2 c.in_ok-x2.ensures in
    let fits-y2 : SFits w64 c.args.raw.y2 = search rules in
    let y2 = kept is_coordinate c.args.raw.y2 c.in_ok-y2.y2.value fits-y2 c.in_ok-y2.ensures in
    let fits-zone : SFits w64 c.args.raw.zone = search rules in
    let zone = kept is_zone c.args.raw.zone (pos c.in_ok-zone.zone) fits-zone c.in_ok-zone.ensures in
    let wide = below c.in_ok-x1.x1.value c.in_ok-x2.x2.value (sym c.ge.ensures ∙ c.if-ge.false) in
    accepted c.args.raw _ (same_record number.1 x1.1 y1.1 x2.1 y2.1 zone.1)
    (record { number = number.0; x1 = x1.0; y1 = y1.0; x2 = x2.0; y2 = y2.0; zone = zone.0; wide = ap (λ (z : ℤ). lt_z z c.args.raw.x2) (sym x1.1) ∙ ap (lt_z c.in_ok-x1.x1.value) (sym x2.1) ∙ below_test _ _ wide })
