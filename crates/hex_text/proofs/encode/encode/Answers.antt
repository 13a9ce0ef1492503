use Rattle.std.proofs.Common.{◌<◌, ◌++◌, length, get_or, vec_items, refl, ap, ◌∙◌, arith}
use Rattle.std.proofs.lemmas.Bool.Decides.{nat_tests}
use Rattle.hex_text.specs.Hex.{digits_of, hex_of}
use Rattle.hex_text.proofs.Written.{digits_more, digits_all, left_alone, length_hex}
use Rattle.hex_text.proofs.encode.encode.Goals as goal

pub returns-in_err-reserve : goal.returns-in_err-reserve
returns-in_err-reserve c =
    let some : 0 < length c.args.bytes.now = grind (arith, nat_tests) in
    let long = length_hex c.args.bytes.now some in
    record {
      items = left_alone (vec_items c.args.out.now) (vec_items c.reserve.new.self) (hex_of c.args.bytes.now) c.from_residual.result c.from_residual.ensures.0 c.in_err-reserve.ensures.items;
      succeeds = λ h. absurd (omega (arith, c.in_err-reserve.ensures.full));
      room = omega (arith, c.in_err-reserve.ensures.capacity);
    }

pub append_digits-requires : goal.append_digits-requires
append_digits-requires c = omega arith

pub loop-byte-preserved : goal.loop-byte-preserved
loop-byte-preserved c = (
  c.append_digits.ensures.items
      ∙ (ap (λ xs. xs ++ digits_of (get_or c.args.bytes.now c.loop-byte.byte-index 0)) c.loop-byte.invariant.0
      ∙ digits_more (vec_items c.reserve.new.self) c.args.bytes.now c.loop-byte.byte-index (omega arith)),
  (omega (arith, c.loop-byte.invariant.1), omega (arith, c.loop-byte.invariant.1)),
)

pub returns : goal.returns
returns c =
    let some : 0 < length c.args.bytes.now = grind (arith, nat_tests) in
    record {
      items =
          c.loop-byte.invariant.0
          ∙ (digits_all (vec_items c.reserve.new.self) c.args.bytes.now c.loop-byte.byte-index some (omega arith)
          ∙ ap (λ xs. xs ++ hex_of c.args.bytes.now) c.in_ok-reserve.ensures.items);
      succeeds = λ _. refl;
      room = omega (arith, c.in_ok-reserve.ensures.capacity, c.loop-byte.invariant.1);
    }
