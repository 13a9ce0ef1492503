-- Walking a figure by a question.
use Rattle.std.specs.Prelude.{◌≡◌, ℕ, ◌≤◌, List, [], ◌∷◌, ◌++◌, length, Some}
use Rattle.std.specs.List.{slice_get}
use Rattle.search.specs.Node.{Node}
use Rattle.search.specs.Judging.{Judging, Judgement}
use Rattle.search.specs.Picks.{ahead, picks}
use Rattle.search.specs.Figure.{root_of}

-- At most 64 may wait.
abbrev pub most_waiting : ℕ
most_waiting = 64

-- The ways named are put on what waits so that the first named is taken next.
abbrev pub onto : {X : Type 0} → List X → List ℕ → List X → List X
onto successors ways waiting = picks successors ways ++ waiting

abbrev pub judge_node : {Q : Type 0} → Judging Q → Q → Node → Judgement
judge_node judging question node = judging.judge question node.kind node.numbers

-- What waits once a node is taken and judged.
abbrev pub waiting_after : {Q : Type 0} → Judging Q → Q → Node → List ℕ → List ℕ
waiting_after judging question node waiting = onto node.successors (judge_node judging question node).ways waiting

-- A walk from the places that wait, the newest first, to the nodes that it visits and the numbers that they emit. It takes
-- the newest place, judges the node there and puts the ways named on what waits; no more than the limit ever wait.
pub data Walk {Q : Type 0} (judging : Judging Q) (question : Q) (limit : ℕ) (figure : List Node) : List ℕ → List Node → List ℕ → Type 0 where
  ended : Walk judging question limit figure [] [] []
  taken : {place : ℕ} {waiting : List ℕ} {node : Node} {visited : List Node} {emitted : List ℕ}
      → slice_get figure place ≡ Some node
      → length (waiting_after judging question node waiting) ≤ limit
      → Walk judging question limit figure (waiting_after judging question node waiting) visited emitted
      → Walk judging question limit figure (place ∷ waiting) (node ∷ visited) (ahead (judge_node judging question node).emits emitted)

-- It starts with the root waiting alone.
abbrev pub WalkFromRoot : {Q : Type 0} → Judging Q → Q → ℕ → List Node → List Node → List ℕ → Type 0
WalkFromRoot judging question limit figure = Walk judging question limit figure (root_of figure ∷ [])

-- A walk has one result.
abbrev pub WalksHaveOneResult : {Q : Type 0} → Judging Q → Type 0
WalksHaveOneResult {Q} judging =
    (question : Q) (limit : ℕ) (figure : List Node) (waiting : List ℕ) (visited visited' : List Node) (emitted emitted' : List ℕ)
    → Walk judging question limit figure waiting visited emitted
    → Walk judging question limit figure waiting visited' emitted'
    → (visited ≡ visited') × (emitted ≡ emitted')
