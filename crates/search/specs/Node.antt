-- A node of a figure.
use Rattle.std.specs.Prelude.{ℕ, ◌+◌, ◌*◌, List, [], ◌∷◌, length, ℤ}

-- Its kind, its numbers, and the places of its successors in the figure.
pub record Node : Type 0 where
  pub kind : ℕ
  pub numbers : List ℤ
  pub successors : List ℕ

-- How many bytes its string has: 4 for the kind, 4 for each number, 32 for each successor's digest.
abbrev pub string_bytes : Node → ℕ
string_bytes node = 4 + 4 * length node.numbers + 32 * length node.successors

-- How many bytes the strings of several nodes have in all.
abbrev pub bytes_of : List Node → ℕ
bytes_of [] = 0
bytes_of (node ∷ nodes) = string_bytes node + bytes_of nodes
