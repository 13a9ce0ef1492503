-- How many bytes the strings of visited nodes have.
use Rattle.std.proofs.Common.{◌≡◌, ℕ, ◌+◌, ◌<◌, List, [], ◌∷◌, ◌++◌, length, refl, ◌∙◌, arith, length-append}
use Rattle.std.specs.List.{AllByRecursion}
use Rattle.std.proofs.ByRecursion.{All-push, All-weaker}
use Rattle.node.specs.Sizes.{IsDigest}
use Rattle.node.proofs.Encodings.{string_length_lem}
use Rattle.node.proofs.ShortStrings.{each_digest}
use Rattle.search.specs.Node.{Node, string_bytes, bytes_of}
use Rattle.search.specs.Judging.{Judging}
use Rattle.search.specs.Picks.{picks}
use Rattle.search.specs.Figure.{Sound, IsFigure}
use Rattle.search.specs.Walk.{Walk, ended, taken}
use Rattle.search.specs.Honest.{string_in, digests_from, digests_of, strings_of, HasDigests, StringsHaveTheirBytes}
use Rattle.search.proofs.Places.{nth_bound, all_picks, picks_each}

-- one digest for each node, of 32 bytes
length_digests : (hash : List ℕ → List ℕ) (before : List (List ℕ)) (nodes : List Node) → length (digests_from hash before nodes) ≡ length before + length nodes
length_digests hash before [] = omega arith
length_digests hash before (n ∷ nodes) =
    let e = length_digests hash (before ++ hash (string_in before n) ∷ []) nodes in
    omega (arith, e, length-append before (hash (string_in before n) ∷ []))

all_digests : (hash : List ℕ → List ℕ) → HasDigests hash → (before : List (List ℕ)) (nodes : List Node) → AllByRecursion IsDigest before → AllByRecursion IsDigest (digests_from hash before nodes)
all_digests hash are before [] h = h
all_digests hash are before (n ∷ nodes) h =
    all_digests hash are (before ++ hash (string_in before n) ∷ []) nodes (All-push IsDigest before (hash (string_in before n)) h (are (string_in before n)))

-- a sound node's string
pub string_bytes_lem : {Q : Type 0} (judging : Judging Q) (digests : List (List ℕ)) (place : ℕ) (n : Node) → AllByRecursion IsDigest digests → place < length digests → Sound judging place n → length (string_in digests n) ≡ string_bytes n
string_bytes_lem judging digests place n all bound sound =
    let few = picks_each digests n.successors (All-weaker (λ p. p < place) (λ p. p < length digests) (λ p h. omega arith) n.successors sound.before) in
    let e = string_length_lem n.kind n.numbers (picks digests n.successors) (each_digest (picks digests n.successors) (all_picks IsDigest digests n.successors all)) in
    omega (arith, e, few)

walk_bytes : {Q : Type 0} (judging : Judging Q) (q : Q) (limit : ℕ) (figure : List Node) (digests : List (List ℕ)) → AllByRecursion IsDigest digests → length digests ≡ length figure → IsFigure judging figure
    → (waiting : List ℕ) (visited : List Node) (emitted : List ℕ) → Walk judging q limit figure waiting visited emitted → length (strings_of digests visited) ≡ bytes_of visited
walk_bytes judging q limit figure digests all long sound _ _ _ ended = refl
walk_bytes judging q limit figure digests all long sound _ _ _ (taken {place} {waiting} {node = n} {visited} {emitted} at few rest) =
    let first = string_bytes_lem judging digests place n all (omega (arith, nth_bound figure place n at, long)) (sound.sound place n at) in
    let later = walk_bytes judging q limit figure digests all long sound _ visited emitted rest in
    length-append (string_in digests n) (strings_of digests visited) ∙ (λ i. first i + later i)

pub strings_bytes : {Q : Type 0} (judging : Judging Q) → StringsHaveTheirBytes judging
strings_bytes judging hash figure q limit visited emitted are sound walk =
    let long : length (digests_of hash figure) ≡ length figure = omega (arith, length_digests hash [] figure) in
    walk_bytes judging q limit figure (digests_of hash figure) (all_digests hash are [] figure tt) long sound _ visited emitted walk
