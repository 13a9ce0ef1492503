-- What a chart kind makes of the records that it holds.
use Rattle.std.specs.Prelude.{ℕ, List, ℤ, Option}
use Rattle.refusal.specs.declared.Refusal.{Refusal}
use Rattle.records.specs.Held.{Holdable}
use Rattle.search.specs.Node.{Node}

pub record Drawing (R Q : Type 0) : Type 0 where
  pub number_of : R → ℤ
  -- Why adding a record to those held is refused, if it is.
  pub add_refusal : List R → R → Option Refusal
  pub figure : List R → List Node
  -- The answer to a question by definition.
  pub answer : List R → Q → List ℕ

-- Records that a register can hold: those that unrefused adds and removes make of none.
abbrev pub CanBeHeld : {R Q : Type 0} → Drawing R Q → List R → Type 0
CanBeHeld drawing = Holdable drawing.number_of drawing.add_refusal
