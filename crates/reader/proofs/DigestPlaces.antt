-- The digests of a string stand in the proof at their places.
use Rattle.std.proofs.Common.{◌≡◌, ℕ, ◌+◌, ◌-◌, ◌*◌, ◌/◌, ◌<◌, ◌≤◌, ltb, leb, List, length, Some, None, sym, ap, ◌∙◌, subst, ⊎_elim, arith, lit<}
use Rattle.std.proofs.lemmas.Bool.{cond-true, cond-false, le-leb, le-ltb, lt-ltb, cases_lt}
use Rattle.node.specs.Kinds.{string_length}
use Rattle.node.specs.Xdr.{uint_of}
use Rattle.node.specs.declared.shape.Shape.{Shape}
use Rattle.reader.specs.LookedFor.{digest_from}
use Rattle.reader.specs.Parts.{part}
use Rattle.reader.specs.Reading.{Position, bytes_left, string_here}
use Rattle.reader.specs.RoundTrips.{DigestsStandInTheProof}
use Rattle.reader.specs.Views.{StringSeen, digest_at, digest_place_at}
use Rattle.reader.proofs.Chunking.{count_of}
use Rattle.reader.proofs.Indexed.{chunk_at}
use Rattle.reader.proofs.Outcomes.{stands}
use Rattle.reader.proofs.PartsOfParts.{part_length, part_of_part}

same_some : (x y : ℕ) → Some x ≡ Some y → x ≡ y
same_some x y q = cc

no_some : (x : ℕ) → None ≡ Some x → ⊥
no_some x q = let z : ◌≡◌ {A = ℕ} 0 1 = cc in omega arith

-- a place that is given is that of a digest of the string
place_is : (seen : StringSeen) (i place : ℕ) → digest_place_at seen i ≡ Some place
    → (i < length seen.successors / 32) × (place ≡ seen.ends - (length seen.successors - 32 * i))
place_is seen i place given =
    let count = length seen.successors / 32 in
    let there = seen.ends - (length seen.successors - 32 * i) in
    ⊎_elim
    (λ lt. (lt, same_some place there (sym given ∙ cond-true (ltb i count) (Some there) None (lt-ltb i count lt))))
    (λ le. absurd (no_some place (sym (cond-false (ltb i count) (Some there) None (le-ltb i count le)) ∙ given)))
    (cases_lt i count)

here_stands : (p : Position) (shape : Shape) (kind i place : ℕ) → string_length shape ≤ bytes_left p
    → digest_place_at (string_here p shape kind) i ≡ Some place
    → digest_from p.bytes place ≡ digest_at (string_here p shape kind) i
here_stands p shape kind i place enough given =
    let bytes = p.bytes in
    let n = shape.numbers in
    let s = shape.successors in
    let q : ℕ = p.at + 4 + 4 * n in
    let successor_bytes = part bytes q (32 * s) in
    let size : length successor_bytes ≡ 32 * s = part_length bytes q (32 * s) (omega arith) in
    let count : length successor_bytes / 32 ≡ s = ap (λ t. t / 32) size ∙ count_of 32 s (lit< tt) in
    let found = place_is (string_here p shape kind) i place given in
    let below : i < s = omega (arith, found.0, count) in
    let there : place ≡ q + 32 * i = omega (arith, found.1, size, below) in
    let inside : place + 32 ≤ length bytes = omega (arith, there, below, enough) in
    cond-true (leb (place + 32) (length bytes)) (Some (part bytes place 32)) None (le-leb (place + 32) (length bytes) inside)
    ∙ ap (λ t. Some (part bytes t 32)) there
    ∙ ap Some (sym (part_of_part bytes q (32 * s) (32 * i) 32 (omega (arith, below))))
    ∙ sym (chunk_at 32 (length successor_bytes / 32) successor_bytes i found.0)

abbrev Standing : List ℕ → ℕ → ℕ → StringSeen → Type 0
Standing bytes i place seen = digest_place_at seen i ≡ Some place → digest_from bytes place ≡ digest_at seen i

pub digests_stand_in_the_proof_lem : DigestsStandInTheProof
digests_stand_in_the_proof_lem root p shape seen i place read =
    let there = stands p shape seen read in
    subst (Standing p.bytes i place) (sym there.same)
    (here_stands p shape (uint_of (part p.bytes p.at 4)) i place there.enough)
