-- What every chart kind shows.
use Rattle.std.specs.Prelude.{◌≡◌, ℕ, ◌<◌, ◌≤◌, true, false, List, length, ℤ, Some, None, nat_le}
use Rattle.std.specs.List.{ContainsAt, AllByRecursion}
use Rattle.node.specs.declared.shape.Shape.{Shape}
use Rattle.records.specs.Held.{holds}
use Rattle.slices.specs.Order.{sorted}
use Rattle.search.specs.Node.{Node, bytes_of}
use Rattle.search.specs.Judging.{Judging, Judgeable}
use Rattle.search.specs.Figure.{IsFigure}
use Rattle.search.specs.Walk.{WalkFromRoot, most_waiting}
use Rattle.search.specs.Drawing.{Drawing, CanBeHeld}

-- The longest proof, in bytes.
abbrev pub longest_proof : ℕ
longest_proof = 65535

-- A walk of the figure by the question never has more waiting than allowed, takes no more bytes than a proof may have, and
-- what it emits, sorted, is the answer.
pub record Answers {Q : Type 0} (judging : Judging Q) (figure : List Node) (question : Q) (answer : List ℕ) : Type 0 where
  pub visited : List Node
  pub emitted : List ℕ
  pub walk : WalkFromRoot judging question most_waiting figure visited emitted
  pub short : bytes_of visited ≤ longest_proof
  pub exact : sorted nat_le emitted ≡ answer

-- What judging shows.
pub record JudgesWell {Q : Type 0} (judging : Judging Q) : Type 0 where
  -- A shape has at most four numbers and three successors.
  pub few_numbers : (kind : ℕ) (shape : Shape) → judging.shape_of kind ≡ Some shape → shape.numbers ≤ 4
  pub few_successors : (kind : ℕ) (shape : Shape) → judging.shape_of kind ≡ Some shape → shape.successors ≤ 3
  -- Judging names at most two ways, each a successor in the shape, and emits at most one number, of 16 bits.
  pub few_ways : (question : Q) (kind : ℕ) (numbers : List ℤ) (shape : Shape) → Judgeable judging shape kind numbers → length (judging.judge question kind numbers).ways ≤ 2
  pub ways_in_shape : (question : Q) (kind : ℕ) (numbers : List ℤ) (shape : Shape) → Judgeable judging shape kind numbers → AllByRecursion (λ way. way < shape.successors) (judging.judge question kind numbers).ways
  pub small_emissions : (question : Q) (kind : ℕ) (numbers : List ℤ) (shape : Shape) (number : ℕ) → Judgeable judging shape kind numbers → (judging.judge question kind numbers).emits ≡ Some number → number < 65536

pub record Laws {R Q : Type 0} (judging : Judging Q) (drawing : Drawing R Q) : Type 0 where
  pub judges_well : JudgesWell judging
  -- An unrefused add's number is not held.
  pub adds_new_numbers : (held : List R) (r : R) → drawing.add_refusal held r ≡ None → holds drawing.number_of (drawing.number_of r) held ≡ false
  -- The figure of records that can be held has sound nodes, with the root last.
  pub figures : (held : List R) → CanBeHeld drawing held → IsFigure judging (drawing.figure held)
  -- Walking it answers every question within bounds.
  pub answers : (held : List R) (question : Q) → CanBeHeld drawing held → judging.is_within_bounds question ≡ true → Answers judging (drawing.figure held) question (drawing.answer held question)

-- Two registers with the same members hold the same list.
abbrev pub SameMembersSameList : {R Q : Type 0} → Drawing R Q → Type 0
SameMembersSameList {R} drawing =
    (held other : List R) → CanBeHeld drawing held → CanBeHeld drawing other
    → ((r : R) → ContainsAt held r → ContainsAt other r) → ((r : R) → ContainsAt other r → ContainsAt held r) → held ≡ other
