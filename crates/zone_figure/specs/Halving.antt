-- Bushes: trees with an element at every fork, made from lists by halving.
use Rattle.std.specs.Prelude.{◌≡◌, ℕ, zero, suc, ◌+◌, ◌/◌, List, [], ◌∷◌, length, take, drop, slice_index_or}

pub data Bush (X : Type 0) : Type 0 where
  bare : Bush X
  fork : Bush X → X → Bush X → Bush X

-- Half of m, rounded up.
abbrev pub half : ℕ → ℕ
half m = (m + 1) / 2

-- A list as a bush. Of m elements the one that has `before m` others before it stands at the fork, those before it are on its
-- low side, those after it on its high side. As many turns suffice as the list has elements.
abbrev pub bush_in : {X : Type 0} → ℕ → (ℕ → ℕ) → List X → Bush X
bush_in zero before xs = bare
bush_in (suc turns) before [] = bare
bush_in (suc turns) before (x ∷ xs) =
    let at = before (length (x ∷ xs)) in
    fork (bush_in turns before (take at (x ∷ xs))) (slice_index_or (x ∷ xs) at x) (bush_in turns before (drop (suc at) (x ∷ xs)))

abbrev pub bush_of : {X : Type 0} → (ℕ → ℕ) → List X → Bush X
bush_of before xs = bush_in (length xs) before xs

-- The same without turns: this is what a bush of a list is.
pub record IsHalved (X : Type 0) (before : ℕ → ℕ) : Type 0 where
  pub nothing : bush_of {X = X} before [] ≡ bare
  pub forked : (x : X) (xs : List X) → bush_of before (x ∷ xs) ≡ fork (bush_of before (take (before (length (x ∷ xs))) (x ∷ xs))) (slice_index_or (x ∷ xs) (before (length (x ∷ xs))) x) (bush_of before (drop (suc (before (length (x ∷ xs)))) (x ∷ xs)))
