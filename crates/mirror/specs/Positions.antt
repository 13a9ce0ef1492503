-- Where a proof is compared, and what stands there.
use Rattle.std.specs.Prelude.{ℕ, List, Some, None, Ok, Err, Option, Result}
use Rattle.reader.specs.Reading.{Position}

abbrev pub position_at : List ℕ → ℕ → Position
position_at proof at = record { bytes = proof; at = at }

-- What was accepted, if it was.
abbrev pub accepted : {X E : Type 0} → Result X E → Option X
accepted (Ok x) = Some x
accepted (Err e) = None
