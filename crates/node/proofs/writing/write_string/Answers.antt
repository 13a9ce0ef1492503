use Rattle.std.proofs.Common.{◌≡◌, ℕ, ◌+◌, ◌<◌, ◌≤◌, length, Ok, Err, Result, ap, ◌∙◌, arith}
use Rattle.std.specs.Result.{IsErrAnd}
use Rattle.node.specs.declared.writing.NotWritten.{NotWritten}
use Rattle.node.specs.declared.writing.NotWritten.TheVariants as not_written
use Rattle.node.specs.Strings.{string_of, xdr_ints, xdr_opaques}
use Rattle.node.specs.Writing.{put_at}
use Rattle.node.specs.Xdr.{xdr_uint}
use Rattle.node.proofs.Encodings.{string_length_lem, xdr_ints_length, xdr_opaques_length}
use Rattle.node.proofs.StringWrites.{three_puts, string_with_room, string_without_room, string_end_with_room, string_end_without_room}
use Rattle.node.proofs.writing.write_string.Goals as goal

pub put_each-after_numbers-requires : goal.put_each-after_numbers-requires
put_each-after_numbers-requires c = record {
  room = omega (arith, xdr_ints_length c.args.numbers.now, ap length c.to_be_bytes.ensures, c.put-after_kind.ensures.answer, c.put-after_kind.auto.out, c.in_ok-end.ensures.0, c.in_ok-end.ensures.1);
  small = omega arith;
}

pub put_each-requires : goal.put_each-requires
put_each-requires c = record {
  room = omega (arith, xdr_ints_length c.args.numbers.now, xdr_opaques_length 32 c.args.digests.now c.told-digests, ap length c.to_be_bytes.ensures, c.put-after_kind.ensures.answer, c.put-after_kind.auto.out, c.put_each-after_numbers.ensures.answer, c.put_each-after_numbers.auto.out, c.in_ok-end.ensures.0, c.in_ok-end.ensures.1);
  small = omega arith;
}

pub returns : goal.returns
returns c =
    let out = c.args.out.now in
    let at = c.args.at in
    let kind = c.args.kind in
    let numbers = c.args.numbers.now in
    let digests = c.args.digests.now in
    let size = string_length_lem kind numbers digests c.told-digests in
    let word = c.to_be_bytes.ensures in
    let end : c.in_ok-end.end ≡ at + length (string_of kind numbers digests) = omega (arith, size, c.in_ok-end.ensures.0) in
    let room : at + length (string_of kind numbers digests) ≤ length out = omega (arith, end, c.in_ok-end.ensures.1) in
    let first : c.put-after_kind.result ≡ at + length (xdr_uint kind) = omega (arith, ap length word, c.put-after_kind.ensures.answer) in
    record {
      answer = ap Ok end ∙ string_end_with_room out at kind numbers digests c.if-numbers-gt4.false c.if-digests-gt3.false room;
      after = c.put_each.ensures.after
          ∙ ap (λ t. put_at t c.put_each-after_numbers.result (xdr_opaques digests)) c.put_each-after_numbers.ensures.after
          ∙ ap (λ t. put_at (put_at t c.put-after_kind.result (xdr_ints numbers)) c.put_each-after_numbers.result (xdr_opaques digests)) (c.put-after_kind.ensures.after ∙ ap (put_at out at) word)
          ∙ three_puts out at c.put-after_kind.result c.put_each-after_numbers.result (xdr_uint kind) (xdr_ints numbers) (xdr_opaques digests) (omega (arith, room)) first c.put_each-after_numbers.ensures.answer
          ∙ string_with_room out at kind numbers digests c.if-numbers-gt4.false c.if-digests-gt3.false room;
    }

-- the error that there is no room, turned into the string's
turned : (r : Result ℕ NotWritten) → IsErrAnd r (λ e. e ≡ not_written.NoRoom) → r ≡ Err not_written.NoRoom
turned (Ok end) told = absurd told
turned (Err e) told = ap Err told

pub returns-in_err-end : goal.returns-in_err-end
returns-in_err-end c =
    let out = c.args.out.now in
    let numbers = c.args.numbers.now in
    let digests = c.args.digests.now in
    let size = string_length_lem c.args.kind numbers digests c.told-digests in
    let short : length out < c.args.at + length (string_of c.args.kind numbers digests) = omega (arith, size, c.in_err-end.ensures) in
    record {
      answer = turned c.from_residual.result c.from_residual.ensures.1 ∙ string_end_without_room out c.args.at c.args.kind numbers digests c.if-numbers-gt4.false c.if-digests-gt3.false short;
      after = string_without_room out c.args.at c.args.kind numbers digests c.if-numbers-gt4.false c.if-digests-gt3.false short;
    }
