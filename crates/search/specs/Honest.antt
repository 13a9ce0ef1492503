-- The digests of a figure, and the honest proof.
use Rattle.std.specs.Prelude.{◌≡◌, ℕ, List, [], ◌∷◌, ◌++◌, length}
use Rattle.std.specs.List.{flat_map}
use Rattle.node.specs.Strings.{string_of}
use Rattle.search.specs.Node.{Node, bytes_of}
use Rattle.search.specs.Picks.{picks}
use Rattle.search.specs.Judging.{Judging}
use Rattle.search.specs.Figure.{IsFigure}
use Rattle.search.specs.Walk.{WalkFromRoot, most_waiting}

-- The string of a node, given the digest of the node at each place: its successors' digests stand in it.
abbrev pub string_in : List (List ℕ) → Node → List ℕ
string_in digests node = string_of node.kind node.numbers (picks digests node.successors)

-- The digests of nodes in order, each the hash of its string, after those of the nodes before them.
abbrev pub digests_from : (List ℕ → List ℕ) → List (List ℕ) → List Node → List (List ℕ)
digests_from hash before [] = before
digests_from hash before (node ∷ nodes) = digests_from hash (before ++ hash (string_in before node) ∷ []) nodes

abbrev pub digests_of : (List ℕ → List ℕ) → List Node → List (List ℕ)
digests_of hash figure = digests_from hash [] figure

-- The strings of the visited nodes, joined.
abbrev pub strings_of : List (List ℕ) → List Node → List ℕ
strings_of digests visited = flat_map (string_in digests) visited

-- The honest proof is the strings of the nodes in the order in which a walk of the figure visits them, joined.
pub record IsHonest {Q : Type 0} (judging : Judging Q) (hash : List ℕ → List ℕ) (figure : List Node) (question : Q) (proof : List ℕ) : Type 0 where
  pub visited : List Node
  pub emitted : List ℕ
  pub walk : WalkFromRoot judging question most_waiting figure visited emitted
  pub is : proof ≡ strings_of (digests_of hash figure) visited

-- A figure has one honest proof for a question at most.
abbrev pub HonestProofsAreUnique : {Q : Type 0} → Judging Q → Type 0
HonestProofsAreUnique {Q} judging =
    (hash : List ℕ → List ℕ) (figure : List Node) (question : Q) (proof other : List ℕ)
    → IsHonest judging hash figure question proof → IsHonest judging hash figure question other → proof ≡ other

-- The hash of every string has 32 bytes.
abbrev pub HasDigests : (List ℕ → List ℕ) → Type 0
HasDigests hash = (bytes : List ℕ) → length (hash bytes) ≡ 32

-- The strings of the nodes that a walk of a figure visits have as many bytes as their shapes say.
abbrev pub StringsHaveTheirBytes : {Q : Type 0} → Judging Q → Type 0
StringsHaveTheirBytes {Q} judging =
    (hash : List ℕ → List ℕ) (figure : List Node) (question : Q) (limit : ℕ) (visited : List Node) (emitted : List ℕ)
    → HasDigests hash → IsFigure judging figure → WalkFromRoot judging question limit figure visited emitted
    → length (strings_of (digests_of hash figure) visited) ≡ bytes_of visited
