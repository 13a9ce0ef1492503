-- Writing what was read gives the bytes that were read.
use Rattle.std.proofs.Common.{◌≡◌, ℕ, ◌+◌, ◌-◌, ◌*◌, ◌≤◌, List, [], ◌∷◌, ◌++◌, length, sym, ap, ◌∙◌, subst, arith}
use Rattle.std.specs.List.{AllByRecursion}
use Rattle.node.specs.Kinds.{string_length}
use Rattle.node.specs.Strings.{string_of, xdr_ints, xdr_opaques}
use Rattle.node.specs.Xdr.{xdr_uint, uint_of}
use Rattle.node.specs.declared.shape.Shape.{Shape}
use Rattle.node.proofs.Integers.{bytes_back}
use Rattle.reader.specs.Parts.{part, numbers_in, digests_in}
use Rattle.reader.specs.Reading.{Position, bytes_left, string_here}
use Rattle.reader.specs.RoundTrips.{IsByte, ReadIsWrittenBack}
use Rattle.reader.specs.Views.{StringSeen}
use Rattle.reader.proofs.Chunking.{numbers_written, digests_written}
use Rattle.reader.proofs.Outcomes.{stands}
use Rattle.reader.proofs.PartsOfParts.{part_length, part_bytes, part_join}

word_back : (word : List ℕ) → length word ≡ 4 → AllByRecursion IsByte word → xdr_uint (uint_of word) ≡ word
word_back [] size all = absurd (omega arith)
word_back (a ∷ []) size all = absurd (omega arith)
word_back (a ∷ b ∷ []) size all = absurd (omega arith)
word_back (a ∷ b ∷ c ∷ []) size all = absurd (omega arith)
word_back (a ∷ b ∷ c ∷ d ∷ []) size all = bytes_back a b c d all.0 all.1.0 all.1.1.0 all.1.1.1.0
word_back (a ∷ b ∷ c ∷ d ∷ e ∷ word) size all = absurd (omega arith)

abbrev WrittenAs : Position → StringSeen → Type 0
WrittenAs p seen =
    (string_of seen.kind (numbers_in seen.numbers) (digests_in seen.successors) ≡ seen.string)
    × (part p.bytes seen.begins (seen.ends - seen.begins) ≡ seen.string)

here_written : (p : Position) (shape : Shape) → AllByRecursion IsByte p.bytes → string_length shape ≤ bytes_left p
    → WrittenAs p (string_here p shape (uint_of (part p.bytes p.at 4)))
here_written p shape all enough =
    let bytes = p.bytes in
    let at = p.at in
    let n = shape.numbers in
    let s = shape.successors in
    let word = part bytes at 4 in
    let number_bytes = part bytes (at + 4) (4 * n) in
    let successor_bytes = part bytes (at + 4 + 4 * n) (32 * s) in
    let first : xdr_uint (uint_of word) ≡ word =
    word_back word (part_length bytes at 4 (omega arith)) (part_bytes bytes at 4 all) in
    let second : xdr_ints (numbers_in number_bytes) ≡ number_bytes =
    numbers_written n number_bytes (part_bytes bytes (at + 4) (4 * n) all) (part_length bytes (at + 4) (4 * n) (omega arith)) in
    let third : xdr_opaques (digests_in successor_bytes) ≡ successor_bytes =
    digests_written s successor_bytes (part_length bytes (at + 4 + 4 * n) (32 * s) (omega arith)) in
    let size : 4 + (4 * n + 32 * s) ≡ string_length shape = omega arith in
    let span : at + string_length shape - at ≡ string_length shape = omega arith in (
      ap (λ t. t ++ (xdr_ints (numbers_in number_bytes) ++ xdr_opaques (digests_in successor_bytes))) first
          ∙ ap (λ t. word ++ (t ++ xdr_opaques (digests_in successor_bytes))) second
          ∙ ap (λ t. word ++ (number_bytes ++ t)) third
          ∙ ap (λ t. word ++ t) (part_join bytes (at + 4) (4 * n) (32 * s))
          ∙ part_join bytes at 4 (4 * n + 32 * s)
          ∙ ap (part bytes at) size,
      ap (part bytes at) span,
    )

pub read_is_written_back_lem : ReadIsWrittenBack
read_is_written_back_lem p shape seen all read =
    let there = stands p shape seen read in
    subst (WrittenAs p) (sym there.same) (here_written p shape all there.enough)
