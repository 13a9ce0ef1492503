use Rattle.std.proofs.Common.{◌≡◌, ℕ, ◌/◌, ◌<◌, length, [], ◌∷◌, ◌++◌, is_some, vec_items, unwrap_or, sym, refl, ap, ◌∙◌, arith}
use Rattle.std.proofs.lemmas.List.{append-nil}
use Rattle.std.proofs.lemmas.Result.{IfOk-from_err}
use Rattle.hex_text.specs.Hex.{bytes_in}
use Rattle.hex_text.proofs.Pairs.{bytes_in_lem, length_bytes_in, none_decoded, byte_at, bytes_more, bytes_all, pair_is, pairs_counted}
use Rattle.hex_text.proofs.Written.{left_alone}
use Rattle.hex_text.proofs.decode.decode.Goals as goal

pub returns-in_default : goal.returns-in_default
returns-in_default c =
    let none = none_decoded c.args.text.now c.in_default.ensures in
    record {
      answer = ap is_some (sym none);
      items = sym (append-nil _) ∙ ap (λ o. vec_items c.args.out.now ++ unwrap_or o []) (sym none);
      succeeds = λ _. refl;
      room = omega arith;
    }

pub returns-in_err-reserve : goal.returns-in_err-reserve
returns-in_err-reserve c =
    let long = length_bytes_in c.args.text.now c.in-Some.count c.in-Some.ensures in
    record {
      answer = IfOk-from_err c.from_residual.result _ c.from_residual.ensures.0;
      items = left_alone (vec_items c.args.out.now) (vec_items c.reserve.new.self) (bytes_in c.args.text.now) c.from_residual.result c.from_residual.ensures.0 c.in_err-reserve.ensures.items;
      succeeds = λ h. absurd (omega (arith, c.in_err-reserve.ensures.full));
      room = omega (arith, c.in_err-reserve.ensures.capacity);
    }

pub loop-high-init : goal.loop-high-init
loop-high-init c =
    let long = length_bytes_in c.args.text.now c.in-Some.count c.in-Some.ensures in
    (sym (append-nil _), (omega (arith, c.in_ok-reserve.ensures.ok), omega arith))

pub unreachable-requires : goal.unreachable-requires
unreachable-requires c =
    let size = pairs_counted c.args.text.now c.in-Some.count c.in-Some.ensures in
    let inside : c.loop-high.high-index < length c.args.text.now / 2 = omega arith in
    let here = c.in-None.ensures ∙ pair_is c.args.text.now c.as_chunks.result.0.now _ c.loop-high.high-index c.as_chunks.ensures.front inside in
    let e = byte_at c.args.text.now c.in-Some.count c.loop-high.high-index c.in-Some.ensures (omega arith) in
    let z : ◌≡◌ {A = ℕ} 0 1 = cc in
    omega arith

pub append_byte-requires : goal.append_byte-requires
append_byte-requires c =
    let size = pairs_counted c.args.text.now c.in-Some.count c.in-Some.ensures in
    let long = length_bytes_in c.args.text.now c.in-Some.count c.in-Some.ensures in
    omega (arith, c.loop-high.invariant.1)

pub loop-high-preserved : goal.loop-high-preserved
loop-high-preserved c =
    let size = pairs_counted c.args.text.now c.in-Some.count c.in-Some.ensures in
    let inside : c.loop-high.high-index < length c.args.text.now / 2 = omega arith in
    let long = length_bytes_in c.args.text.now c.in-Some.count c.in-Some.ensures in (
      c.append_byte.ensures.items
          ∙ (ap (λ xs. xs ++ c.in-Some-pair_value.byte ∷ []) c.loop-high.invariant.0
          ∙ bytes_more (vec_items c.reserve.new.self) c.args.text.now c.in-Some.count c.loop-high.high-index c.in-Some-pair_value.byte c.in-Some.ensures (omega arith) (c.in-Some-pair_value.ensures ∙ pair_is c.args.text.now c.as_chunks.result.0.now _ c.loop-high.high-index c.as_chunks.ensures.front inside)),
      (omega (arith, c.loop-high.invariant.1), omega (arith, c.loop-high.invariant.1)),
    )

pub returns : goal.returns
returns c =
    let size = pairs_counted c.args.text.now c.in-Some.count c.in-Some.ensures in
    let long = length_bytes_in c.args.text.now c.in-Some.count c.in-Some.ensures in
    record {
      answer = ap is_some (sym (bytes_in_lem c.args.text.now c.in-Some.count c.in-Some.ensures));
      items =
          c.loop-high.invariant.0
          ∙ (bytes_all (vec_items c.reserve.new.self) (bytes_in c.args.text.now) c.loop-high.high-index (omega arith)
          ∙ ap (λ xs. xs ++ bytes_in c.args.text.now) c.in_ok-reserve.ensures.items);
      succeeds = λ _. refl;
      room = omega (arith, c.in_ok-reserve.ensures.capacity, c.loop-high.invariant.1);
    }
