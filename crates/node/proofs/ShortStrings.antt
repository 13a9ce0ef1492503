-- How long a string can be.
use Rattle.std.proofs.Common.{◌≡◌, ℕ, zero, suc, ◌≤◌, leb, List, [], ◌∷◌, length, Ok, Err, arith}
use Rattle.std.specs.List.{AllByRecursion}
use Rattle.std.proofs.lemmas.Bool.{cond-true, le-leb}
use Rattle.refusal.specs.declared.Refusal.TheVariants.{MessageTooLong}
use Rattle.digest.specs.Hashing.{hashed, longest}
use Rattle.node.specs.Strings.{string_of}
use Rattle.node.specs.Sizes.{IsDigest, StringsAreShort, StringsAreHashed}
use Rattle.node.proofs.Encodings.{EachOf, string_length_lem}

pub each_digest : (digests : List (List ℕ)) → AllByRecursion IsDigest digests → EachOf 32 digests
each_digest [] all i within = absurd (omega arith)
each_digest (d ∷ digests) all zero within = all.0
each_digest (d ∷ digests) all (suc i) within = each_digest digests all.1 i (omega arith)

pub strings_are_short_lem : StringsAreShort
strings_are_short_lem kind numbers digests few three all =
    omega (arith, string_length_lem kind numbers digests (each_digest digests all))

-- a hash refuses no message that is as short
pub short_is_hashed : (hash : List ℕ → List ℕ) (message : List ℕ) → length message ≤ 116 → hashed hash message ≡ Ok (hash message)
short_is_hashed hash message short =
    cond-true (leb (length message) longest) (Ok (hash message)) (Err MessageTooLong) (le-leb (length message) longest (omega arith))

pub strings_are_hashed_lem : StringsAreHashed
strings_are_hashed_lem hash kind numbers digests few three all =
    short_is_hashed hash (string_of kind numbers digests) (strings_are_short_lem kind numbers digests few three all)
