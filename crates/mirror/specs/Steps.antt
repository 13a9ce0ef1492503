-- What one node of a traversal leaves.
use Rattle.std.specs.Prelude.{◌≡◌, ℕ, ◌+◌, List, length}
use Rattle.node.specs.Writing.{put_at}
use Rattle.search.specs.Node.{Node}
use Rattle.search.specs.Judging.{Judging}
use Rattle.search.specs.Walk.{waiting_after}
use Rattle.search.specs.Honest.{string_in}
use Rattle.calls.specs.declared.outcomes.Proved.{Proved}
use Rattle.calls.specs.Proving.{all_bytes}

-- The place after a node's string that begins at a place.
abbrev pub end_of : List (List ℕ) → ℕ → Node → ℕ
end_of digests at node = at + length (string_in digests node)

-- A node that is proved: the ways that it names wait next, and its string stands in the buffer from the place on.
pub record IsWritten {Q : Type 0} (judging : Judging Q) (question : Q) (digests : List (List ℕ)) (node : Node) (at : ℕ) (waiting waiting_then buffer buffer_then : List ℕ) : Type 0 where
  pub waits : waiting_then ≡ waiting_after judging question node waiting
  pub stands : buffer_then ≡ put_at buffer at (string_in digests node)

-- How many strings there are, and how many bytes they have.
abbrev pub summed : List (List ℕ) → Proved
summed strings = record { strings = length strings; bytes = length (all_bytes strings) }
