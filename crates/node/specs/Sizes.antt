-- The strings of nodes are short.
use Rattle.std.specs.Prelude.{◌≡◌, ℕ, ◌≤◌, List, length, ℤ, Ok}
use Rattle.std.specs.List.{AllByRecursion}
use Rattle.digest.specs.Hashing.{hashed}
use Rattle.node.specs.Strings.{string_of, node_digest}

-- A digest has 32 bytes.
abbrev pub IsDigest : List ℕ → Type 0
IsDigest bytes = length bytes ≡ 32

-- A string of at most four numbers and three successors has at most 116 bytes.
abbrev pub StringsAreShort : Type 0
StringsAreShort =
    (kind : ℕ) (numbers : List ℤ) (digests : List (List ℕ))
    → length numbers ≤ 4 → length digests ≤ 3 → AllByRecursion IsDigest digests
    → length (string_of kind numbers digests) ≤ 116

-- So a hash never refuses one: it gives the node's digest.
abbrev pub StringsAreHashed : Type 0
StringsAreHashed =
    (hash : List ℕ → List ℕ) (kind : ℕ) (numbers : List ℤ) (digests : List (List ℕ))
    → length numbers ≤ 4 → length digests ≤ 3 → AllByRecursion IsDigest digests
    → hashed hash (string_of kind numbers digests) ≡ Ok (node_digest hash kind numbers digests)
