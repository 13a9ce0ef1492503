-- What a call answers and leaves, from why it is refused.
use Rattle.std.specs.Prelude.{Some, None, Ok, Err, Option, Result}
use Rattle.refusal.specs.declared.Refusal.{Refusal}

-- The answer, or the refusal.
abbrev pub answered : {X : Type 0} → Option Refusal → X → Result X Refusal
answered None x = Ok x
answered (Some refusal) x = Err refusal

-- What is there after a call that changes nothing when it is refused.
abbrev pub unless_refused : {X : Type 0} → Option Refusal → X → X → X
unless_refused None after before = after
unless_refused (Some refusal) after before = before
