-- Figures: lists of sound nodes, successors before their node, the root last.
use Rattle.std.specs.Prelude.{◌≡◌, ℕ, ◌-◌, ◌<◌, List, length, Some}
use Rattle.std.specs.List.{slice_get, AllByRecursion}
use Rattle.node.specs.declared.shape.Shape.{Shape}
use Rattle.search.specs.Node.{Node}
use Rattle.search.specs.Judging.{Judging, Judgeable}

-- A node is sound at a place if its kind is known, it has as many numbers and successors as its shape says, the numbers
-- are fit, and every successor stands before it.
pub record Sound {Q : Type 0} (judging : Judging Q) (place : ℕ) (node : Node) : Type 0 where
  pub shape : Shape
  pub judgeable : Judgeable judging shape node.kind node.numbers
  pub joined : length node.successors ≡ shape.successors
  pub before : AllByRecursion (λ successor. successor < place) node.successors

pub record IsFigure {Q : Type 0} (judging : Judging Q) (figure : List Node) : Type 0 where
  pub some : 0 < length figure
  pub sound : (place : ℕ) (node : Node) → slice_get figure place ≡ Some node → Sound judging place node

-- The root is the last node.
abbrev pub root_of : List Node → ℕ
root_of figure = length figure - 1
