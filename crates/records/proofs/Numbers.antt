-- Whether two numbers are the same, as a test and as an equation.
use Rattle.std.proofs.Common.{◌≡◌, Bool, true, false, ℤ, sym, ap, ◌∙◌, arith, SFits, to_z, of_z}
use mir.Syntax.{Width}
use Rattle.std.proofs.lemmas.Int.{ints, to_z-of_z}
use Rattle.records.specs.Held.{same_number}
use Rattle.records.specs.Range.{within}

pub same_yes : (m n : ℤ) → m ≡ n → same_number m n ≡ true
same_yes m n e = grind (arith, ints)

pub same_no : (m n : ℤ) → (m ≡ n → ⊥) → same_number m n ≡ false
same_no m n e = grind (arith, ints)

pub same_eq : (m n : ℤ) → same_number m n ≡ true → m ≡ n
same_eq m n e = grind (arith, ints)

pub differ : (m n : ℤ) → same_number m n ≡ false → m ≡ n → ⊥
differ m n e h = grind (arith, ints)

-- Numbers of one width with the same bits are the same.
pub same_bits : (w : Width) (m n : ℤ) → SFits w m → SFits w n → of_z w m ≡ of_z w n → m ≡ n
same_bits w m n f h e = sym (to_z-of_z w m f) ∙ ap (to_z w) e ∙ to_z-of_z w n h

-- What is said of a number's bits, read back, is said of the number.
pub from_bits : {X : Type 0} (w : Width) (F : ℤ → X) (x : X) (z : ℤ) → SFits w z → x ≡ F (to_z w (of_z w z)) → x ≡ F z
from_bits w F x z fits e = e ∙ ap F (to_z-of_z w z fits)

pub within_from_bits : (w : Width) (low high value : ℤ) (r : Bool) → SFits w low → SFits w high → SFits w value → r ≡ within (to_z w (of_z w low)) (to_z w (of_z w high)) (to_z w (of_z w value)) → r ≡ within low high value
within_from_bits w low high value r l h v e =
    e ∙ ap (λ (m : ℤ). within m (to_z w (of_z w high)) (to_z w (of_z w value))) (to_z-of_z w low l) ∙ ap (λ (m : ℤ). within low m (to_z w (of_z w value))) (to_z-of_z w high h) ∙ ap (within low high) (to_z-of_z w value v)
