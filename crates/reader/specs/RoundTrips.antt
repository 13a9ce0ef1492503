-- Strings written and read back.
use Rattle.std.specs.Prelude.{◌≡◌, ℕ, ◌+◌, ◌-◌, ◌^◌, ◌<◌, ◌≤◌, List, ◌++◌, length, ℤ, pos, negsuc, ◌≤ℤ◌, Some, Ok}
use Rattle.std.specs.List.{AllByRecursion}
use Rattle.node.specs.Sizes.{IsDigest}
use Rattle.digest.specs.Hashing.{hashed}
use Rattle.node.specs.Strings.{string_of, node_digest}
use Rattle.node.specs.declared.shape.Shape.{Shape}
use Rattle.reader.specs.declared.digest_lookup.DigestPlace.TheVariants.{InProof}
use Rattle.reader.specs.LookedFor.{looked_for}
use Rattle.reader.specs.Parts.{part, numbers_in, digests_in}
use Rattle.reader.specs.Reading.{Position, read_kind, read_string}
use Rattle.reader.specs.Views.{StringSeen, digest_at, digest_place_at}

abbrev pub IsByte : ℕ → Type 0
IsByte b = b < 256

-- A number of 32 bits: -2^31 to 2^31 - 1.
abbrev pub IsInt : ℤ → Type 0
IsInt z = (negsuc (2 ^ 31 - 1) ≤ℤ z) × (z ≤ℤ pos (2 ^ 31 - 1))

-- A string that stands somewhere in a proof is read by the shape of its node: the node comes back, and its place.
pub record ReadBack (p : Position) (shape : Shape) (kind : ℕ) (numbers : List ℤ) (digests : List (List ℕ)) (seen : StringSeen) : Type 0 where
  pub kind_first : read_kind p ≡ Ok kind
  pub whole : read_string p shape ≡ Ok seen
  pub kind_is : seen.kind ≡ kind
  pub numbers_are : numbers_in seen.numbers ≡ numbers
  pub digests_are : digests_in seen.successors ≡ digests
  pub string_is : seen.string ≡ string_of kind numbers digests
  pub begins_at : seen.begins ≡ p.at
  pub ends_at : seen.ends ≡ p.at + length (string_of kind numbers digests)

-- What was written is read back, for every kind and every number of 32 bits.
abbrev pub WrittenIsReadBack : Type 0
WrittenIsReadBack =
    (front rest : List ℕ) (shape : Shape) (kind : ℕ) (numbers : List ℤ) (digests : List (List ℕ))
    → kind < 2 ^ 32 → AllByRecursion IsInt numbers → AllByRecursion IsDigest digests
    → shape.numbers ≡ length numbers → shape.successors ≡ length digests
    → (seen : StringSeen) × ReadBack (record { bytes = front ++ (string_of kind numbers digests ++ rest); at = length front }) shape kind numbers digests seen

-- Writing what was read gives the bytes that were read.
abbrev pub ReadIsWrittenBack : Type 0
ReadIsWrittenBack =
    (p : Position) (shape : Shape) (seen : StringSeen)
    → AllByRecursion IsByte p.bytes → read_string p shape ≡ Ok seen
    → (string_of seen.kind (numbers_in seen.numbers) (digests_in seen.successors) ≡ seen.string)
    × (part p.bytes seen.begins (seen.ends - seen.begins) ≡ seen.string)

-- A hash never refuses a string that was read, and gives the digest of the node that was read.
abbrev pub ReadStringsAreHashed : Type 0
ReadStringsAreHashed =
    (hash : List ℕ → List ℕ) (p : Position) (shape : Shape) (seen : StringSeen)
    → AllByRecursion IsByte p.bytes → shape.numbers ≤ 4 → shape.successors ≤ 3 → read_string p shape ≡ Ok seen
    → hashed hash seen.string ≡ Ok (node_digest hash seen.kind (numbers_in seen.numbers) (digests_in seen.successors))

-- The digests of a string that was read stand in the proof at their places.
abbrev pub DigestsStandInTheProof : Type 0
DigestsStandInTheProof =
    (root : List ℕ) (p : Position) (shape : Shape) (seen : StringSeen) (i place : ℕ)
    → read_string p shape ≡ Ok seen → digest_place_at seen i ≡ Some place
    → looked_for root p.bytes (InProof place) ≡ digest_at seen i
