use Rattle.std.proofs.Common.{◌≡◌, [], ◌∷◌, ◌/◌, ◌%◌, ◌*◌, ◌≤◌, ◌<◌, length, eqb, Some, sym, ap, ◌∙◌, arith}
use lib.Pointwise.{pointwise}
use Rattle.std.proofs.lemmas.Bool.{false≢true}
use Rattle.std.proofs.lemmas.Bool.Decides.{nat_tests}
use Rattle.std.specs.Option.{option_map}
use Rattle.hex_text.proofs.Pairs.{bytes_none, bytes_pairs, count_none, count_more, count_stops, count_all, pair_is}
use Rattle.hex_text.proofs.decode.decoded_length.Goals as goal
use Rattle.hex_text.proofs.decode.decoded_length.Goals.{then-is_empty-via-then-is_empty, then-is_empty-via-else-is_empty+then-not-is_empty}

pub returns-then-is_empty : goal.returns-then-is_empty
returns-then-is_empty c =
    let text = c.args.text.now in
    let other : (text ≡ 45 ∷ [] → ⊥) = λ e. false≢true (c.if-eq.ensures ∙ (ap (λ xs. pointwise eqb xs c.as_slice.result.now) e ∙ ap (pointwise eqb (45 ∷ [])) c.as_slice.ensures)) in
    let odd : (2 ≤ length text → length text % 2 ≡ 1) =
    elim c.then-is_empty.branch [
      | then-is_empty-via-then-is_empty w ↦ λ long. grind (arith, nat_tests)
      | then-is_empty-via-else-is_empty+then-not-is_empty w ↦ λ long. grind (arith, nat_tests)
    ]
    in
    ap (option_map length) (sym (bytes_none text odd other))

pub loop-high-init : goal.loop-high-init
loop-high-init c = count_none c.args.text.now

pub returns-in_err-pair_value : goal.returns-in_err-pair_value
returns-in_err-pair_value c =
    let text = c.args.text.now in
    let i = c.loop-high.high-index in
    let inside : i < length text / 2 = omega arith in
    let long : 2 ≤ length text = omega arith in
    c.from_residual.ensures
    ∙ (sym (count_stops text i (omega arith) (c.in_err-pair_value.ensures ∙ pair_is text c.as_chunks.result.0.now _ i c.as_chunks.ensures.front inside) c.loop-high.invariant)
    ∙ ap (option_map length) (sym (bytes_pairs text long)))

pub loop-high-preserved : goal.loop-high-preserved
loop-high-preserved c =
    let text = c.args.text.now in
    let i = c.loop-high.high-index in
    let inside : i < length text / 2 = omega arith in
    count_more text i c.in_ok-pair_value.field-0 (omega arith) (c.in_ok-pair_value.ensures ∙ pair_is text c.as_chunks.result.0.now _ i c.as_chunks.ensures.front inside) c.loop-high.invariant

pub returns : goal.returns
returns c =
    let text = c.args.text.now in
    let n = length c.as_chunks.result.0.now in
    let some : 0 < n = grind (arith, nat_tests) in
    let even : length text ≤ 2 * n = grind (arith, nat_tests) in
    let end : c.loop-high.high-index ≡ n = omega arith in
    let long : 2 ≤ length text = omega arith in
    ap Some (sym end)
    ∙ (sym (count_all text c.loop-high.high-index (omega arith) c.loop-high.invariant)
    ∙ ap (option_map length) (sym (bytes_pairs text long)))
