-- Lists halved again and again: trees with the elements at their leaves.
use Rattle.std.specs.Prelude.{ℕ, zero, suc, ◌+◌, ◌/◌, List, [], ◌∷◌, ◌++◌, length, take, drop}

pub data Tree (X : Type 0) : Type 0 where
  none : Tree X
  one : X → Tree X
  both : Tree X → Tree X → Tree X

-- Half of a number, rounded up.
abbrev pub half : ℕ → ℕ
half m = (m + 1) / 2

abbrev pub left_half : {X : Type 0} → List X → List X
left_half xs = take (half (length xs)) xs

abbrev pub right_half : {X : Type 0} → List X → List X
right_half xs = drop (half (length xs)) xs

-- Halved at most so many times, one inside the other.
abbrev pub halved : {X : Type 0} → ℕ → List X → Tree X
halved times [] = none
halved times (x ∷ []) = one x
halved zero (x ∷ y ∷ zs) = none
halved (suc times) (x ∷ y ∷ zs) = both (halved times (left_half (x ∷ y ∷ zs))) (halved times (right_half (x ∷ y ∷ zs)))

-- As many times as there are elements is always enough.
abbrev pub tree_of : {X : Type 0} → List X → Tree X
tree_of xs = halved (length xs) xs

-- The elements at the leaves, from left to right.
abbrev pub leaves_of : {X : Type 0} → Tree X → List X
leaves_of none = []
leaves_of (one x) = x ∷ []
leaves_of (both l r) = leaves_of l ++ leaves_of r
