-- What a chart kind knows of questions and nodes, without any record.
use Rattle.std.specs.Prelude.{◌≡◌, ℕ, Bool, true, cond, ◌&&◌, List, [], length, ℤ, Some, None, Option}
use Rattle.node.specs.declared.shape.Shape.{Shape}

-- What judging a node gives: which of its successors to go to, counted from 0, in the order named, and what it emits.
pub record Judgement : Type 0 where
  pub ways : List ℕ
  pub emits : Option ℕ

-- Nothing emitted, no way named.
abbrev pub nothing : Judgement
nothing = record { ways = []; emits = None }

pub record Judging (Q : Type 0) : Type 0 where
  pub is_within_bounds : Q → Bool
  -- The shape of a kind; none where the kind is not known.
  pub shape_of : ℕ → Option Shape
  -- Whether the numbers of a node of that kind are fit.
  pub is_fit : ℕ → List ℤ → Bool
  -- By question, kind and numbers.
  pub judge : Q → ℕ → List ℤ → Judgement

-- The kind is known, and the numbers are as many as its shape says, and fit.
pub record Judgeable {Q : Type 0} (judging : Judging Q) (shape : Shape) (kind : ℕ) (numbers : List ℤ) : Type 0 where
  pub known : judging.shape_of kind ≡ Some shape
  pub counted : length numbers ≡ shape.numbers
  pub fit : judging.is_fit kind numbers ≡ true

-- The judgement on any input: nothing, if the question is not within bounds or the numbers are unfit.
abbrev pub judged : {Q : Type 0} → Judging Q → Q → ℕ → List ℤ → Judgement
judged judging question kind numbers =
    cond (judging.is_within_bounds question && judging.is_fit kind numbers) (judging.judge question kind numbers) nothing
