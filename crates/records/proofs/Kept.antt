-- What a value that passed its test, or did not, tells of the test.
use Rattle.std.proofs.Common.{◌≡◌, Bool, true, false, cond, ℤ, Some, None, refl}
use Rattle.records.specs.Range.{kept_by}

-- what came of a choice tells how it fell
pub chosen : {X : Type 0} (b : Bool) (v z : X) → Some v ≡ cond b (Some z) None → (b ≡ true) × (v ≡ z)
chosen true v z e = (refl, cc)
chosen false v z e = (cc, cc)

pub not_chosen : {X : Type 0} (b : Bool) (z : X) → None ≡ cond b (Some z) None → b ≡ false
not_chosen true z e = cc
not_chosen false z e = refl

pub kept : (test : ℤ → Bool) (v z : ℤ) → Some v ≡ kept_by test z → (test z ≡ true) × (v ≡ z)
kept test v z e = chosen (test z) v z e

pub missed : (test : ℤ → Bool) (z : ℤ) → None ≡ kept_by test z → test z ≡ false
missed test z e = not_chosen (test z) z e
