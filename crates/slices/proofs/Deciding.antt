-- Two tests that decide the same.
use Rattle.std.proofs.Common.{◌≡◌, Bool, true, false, Decides, sym, refl}

pub same_decision : {P : Type 0} (r s : Bool) → Decides r P → Decides s P → r ≡ s
same_decision true s left right = sym (right.1 (left.0 refl))
same_decision false true left right = left.1 (right.0 refl)
same_decision false false left right = refl
