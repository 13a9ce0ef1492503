use Rattle.std.proofs.Common.{rules, subst, ◌≡◌, ◌+◌, ◌-◌, ◌*◌, ◌/◌, ◌<◌, ◌≤◌, length, get_or, drop, None, sym, ap, ◌∙◌, inl, inr, arith}
use Rattle.std.proofs.lemmas.Bool.{cond-true, le-leb}
use Rattle.script.specs.Number.{and_then, digits_after, up_to}
use Rattle.script.proofs.Magnitude.{too_large, digits_start, digits_more, digits_stop, digits_all, quotient_above, quotient_below}
use Rattle.script.proofs.number.magnitude.Goals as goal
use Rattle.script.proofs.number.magnitude.Goals.{then-digit-lt48-via-then-digit-lt48, then-digit-lt48-via-else-digit-lt48+then-digit-gt57}

pub returns-then-digit-lt48 : goal.returns-then-digit-lt48
returns-then-digit-lt48 c =
    let some : 0 < length c.args.digits.now = search (rules, c.if-is_empty.false, c.is_empty.ensures) in
    let i = c.loop-digit.digit-index in
    let stop : digits_after c.loop-digit.value (drop i c.args.digits.now) ≡ None =
    elim c.then-digit-lt48.branch [
      | then-digit-lt48-via-then-digit-lt48 w ↦ digits_stop c.args.digits.now c.loop-digit.value i c.loop-digit-test.true (inl w.if-digit-lt48.true)
      | then-digit-lt48-via-else-digit-lt48+then-digit-gt57 w ↦ digits_stop c.args.digits.now c.loop-digit.value i c.loop-digit-test.true (inr w.if-digit-gt57.true)
    ]
    in
    sym (ap (λ o. and_then o (up_to 9223372036854775808)) (digits_start c.args.digits.now some ∙ c.loop-digit.invariant.1 ∙ stop))

pub returns-then-value-unit : goal.returns-then-value-unit
returns-then-value-unit c =
    let some : 0 < length c.args.digits.now = search (rules, c.if-is_empty.false, c.is_empty.ensures) in
    let i = c.loop-digit.digit-index in
    let byte = get_or c.args.digits.now i 0 in
    let v = c.loop-digit.value in
    sym
    (ap (λ o. and_then o (up_to 9223372036854775808)) (digits_start c.args.digits.now some ∙ c.loop-digit.invariant.1 ∙ digits_more c.args.digits.now v i c.loop-digit-test.true c.if-digit-lt48.false c.if-digit-gt57.false)
    ∙ too_large 9223372036854775808 (10 * v + (byte - 48)) (drop (i + 1) c.args.digits.now) (quotient_above 9223372036854775808 v (byte - 48) (subst (λ u. (9223372036854775808 - u) / 10 < c.loop-digit.value) c.from-unit.ensures c.if-value-unit.true)))

pub loop-digit-preserved : goal.loop-digit-preserved
loop-digit-preserved c = (
  subst (λ u. 10 * c.loop-digit.value + u ≤ 9223372036854775808) (sym c.from-unit.ensures) (quotient_below 9223372036854775808 c.loop-digit.value (get_or c.args.digits.now c.loop-digit.digit-index 0 - 48) (omega arith) (subst (λ u. c.loop-digit.value ≤ (9223372036854775808 - u) / 10) c.from-unit.ensures c.if-value-unit.false)),
  c.loop-digit.invariant.1 ∙ digits_more c.args.digits.now c.loop-digit.value c.loop-digit.digit-index c.loop-digit-test.true c.if-digit-lt48.false c.if-digit-gt57.false
      ∙ ap (λ u. digits_after (10 * c.loop-digit.value + u) (drop (c.loop-digit.digit-index + 1) c.args.digits.now)) (sym c.from-unit.ensures),
)

pub returns : goal.returns
returns c =
    let some : 0 < length c.args.digits.now = search (rules, c.if-is_empty.false, c.is_empty.ensures) in
    sym
    (ap (λ o. and_then o (up_to 9223372036854775808)) (digits_start c.args.digits.now some ∙ c.loop-digit.invariant.1 ∙ digits_all c.args.digits.now c.loop-digit.value c.loop-digit.digit-index c.loop-digit-test.false)
    ∙ cond-true _ _ _ (le-leb c.loop-digit.value 9223372036854775808 c.loop-digit.invariant.0))
