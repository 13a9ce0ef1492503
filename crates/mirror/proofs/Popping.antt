-- The newest of what waits, taken.
use Rattle.std.proofs.Common.{◌≡◌, ℕ, List, [], ◌∷◌, Some, None, sym, refl, arith}
use Rattle.slices.specs.Stacks.{first, others}

pub taken : {X : Type 0} (xs rest : List X) (x : X) → Some x ≡ first xs → rest ≡ others xs → xs ≡ x ∷ rest
taken [] rest x h k = let z : ◌≡◌ {A = ℕ} 0 1 = cc in absurd (omega arith)
taken (y ∷ xs) rest x h k = let e : x ≡ y = cc in (λ i. sym e i ∷ sym k i)

pub none_left : {X : Type 0} (xs : List X) → None ≡ first xs → xs ≡ []
none_left [] h = refl
none_left (y ∷ xs) h = let z : ◌≡◌ {A = ℕ} 0 1 = cc in absurd (omega arith)
