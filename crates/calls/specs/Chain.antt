-- A chain of tests: the first that fails is the refusal.
use Rattle.std.specs.Prelude.{Bool, true, false, Some, None, Ok, Err, Option, Result}

-- A test that is to pass.
abbrev pub guard : {E : Type 0} → Bool → E → Result (Unit {0}) E
guard true e = Ok tt
guard false e = Err e

-- Something that is to be there.
abbrev pub found : {X E : Type 0} → Option X → E → Result X E
found (Some x) e = Ok x
found None e = Err e

-- One of two ways to go on.
abbrev pub choose : {X : Type 0} → Bool → (Unit {0} → X) → (Unit {0} → X) → X
choose true yes_way no_way = yes_way tt
choose false yes_way no_way = no_way tt
