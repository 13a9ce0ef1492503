-- What was written is read back.
use Rattle.std.proofs.Common.{◌≡◌, ◌+◌, ◌*◌, ◌++◌, length, Ok, sym, refl, ap, ◌∙◌, append_assoc, arith, length-append}
use Rattle.node.specs.Kinds.{string_length}
use Rattle.node.specs.Strings.{string_of, xdr_ints, xdr_opaques}
use Rattle.node.specs.Xdr.{xdr_uint, uint_of}
use Rattle.node.proofs.Encodings.{string_length_lem, xdr_ints_length, xdr_opaques_length}
use Rattle.node.proofs.Integers.{uint_back}
use Rattle.node.proofs.ShortStrings.{each_digest}
use Rattle.reader.specs.Parts.{part, numbers_in, digests_in}
use Rattle.reader.specs.Reading.{Position, bytes_left, string_here}
use Rattle.reader.specs.RoundTrips.{WrittenIsReadBack}
use Rattle.reader.proofs.Chunking.{numbers_back, digests_back}
use Rattle.reader.proofs.Outcomes.{kind_read, string_read}
use Rattle.reader.proofs.PartsOfParts.{part_behind, part_mid}

pub written_is_read_back_lem : WrittenIsReadBack
written_is_read_back_lem front rest shape kind numbers digests small ints digests32 n s =
    let string = string_of kind numbers digests in
    let bytes = front ++ (string ++ rest) in
    let at = length front in
    let p : Position = record { bytes = bytes; at = at } in
    let each = each_digest digests digests32 in
    let size : length string ≡ string_length shape = omega (arith, string_length_lem kind numbers digests each, n, s) in
    let left : bytes_left p ≡ length string + length rest =
    omega (arith, length-append front (string ++ rest), length-append string rest) in
    let ints_size : length (xdr_ints numbers) ≡ 4 * shape.numbers = omega (arith, xdr_ints_length numbers, n) in
    let opaques_size : length (xdr_opaques digests) ≡ 32 * shape.successors = omega (arith, xdr_opaques_length 32 digests each, s) in
    let word : part bytes at 4 ≡ xdr_uint kind = part_mid front (xdr_uint kind) ((xdr_ints numbers ++ xdr_opaques digests) ++ rest) at 4 refl refl in
    let kind_is : uint_of (part bytes at 4) ≡ kind = ap uint_of word ∙ uint_back kind small in
    let number_bytes : part bytes (at + 4) (4 * shape.numbers) ≡ xdr_ints numbers =
    part_behind front (string ++ rest) 4 (4 * shape.numbers)
    ∙ ap (λ t. part (xdr_uint kind ++ t) 4 (4 * shape.numbers)) (append_assoc (xdr_ints numbers) (xdr_opaques digests) rest)
    ∙ part_mid (xdr_uint kind) (xdr_ints numbers) (xdr_opaques digests ++ rest) 4 (4 * shape.numbers) refl ints_size in
    let regrouped : string ++ rest ≡ (xdr_uint kind ++ xdr_ints numbers) ++ (xdr_opaques digests ++ rest) =
    ap (λ t. xdr_uint kind ++ t) (append_assoc (xdr_ints numbers) (xdr_opaques digests) rest)
    ∙ sym (append_assoc (xdr_uint kind) (xdr_ints numbers) (xdr_opaques digests ++ rest)) in
    let before : length (xdr_uint kind ++ xdr_ints numbers) ≡ 4 + 4 * shape.numbers =
    length-append (xdr_uint kind) (xdr_ints numbers) ∙ omega (arith, ints_size) in
    let place : at + 4 + 4 * shape.numbers ≡ at + (4 + 4 * shape.numbers) = omega arith in
    let successor_bytes : part bytes (at + 4 + 4 * shape.numbers) (32 * shape.successors) ≡ xdr_opaques digests =
    ap (λ q. part bytes q (32 * shape.successors)) place
    ∙ part_behind front (string ++ rest) (4 + 4 * shape.numbers) (32 * shape.successors)
    ∙ ap (λ t. part t (4 + 4 * shape.numbers) (32 * shape.successors)) regrouped
    ∙ part_mid (xdr_uint kind ++ xdr_ints numbers) (xdr_opaques digests) rest (4 + 4 * shape.numbers) (32 * shape.successors) before opaques_size in
    let seen = string_here p shape (uint_of (part bytes at 4)) in (
      seen,
      record {
        kind_first = kind_read p (omega (arith, left, size)) ∙ ap Ok kind_is;
        whole = string_read p shape (omega (arith, left, size));
        kind_is = kind_is;
        numbers_are = ap numbers_in number_bytes ∙ numbers_back numbers ints;
        digests_are = ap digests_in successor_bytes ∙ digests_back digests digests32;
        string_is = part_mid front string rest at (string_length shape) refl size;
        begins_at = refl;
        ends_at = ap (λ t. at + t) (sym size);
      },
    )
