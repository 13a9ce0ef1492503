-- Elements picked from a list by their places.
use Rattle.std.specs.Prelude.{ℕ, List, [], ◌∷◌, Some, None, Option}
use Rattle.std.specs.List.{slice_get}

-- An element, if there is one, before the others.
abbrev pub ahead : {X : Type 0} → Option X → List X → List X
ahead None xs = xs
ahead (Some x) xs = x ∷ xs

-- The elements at these places, in the order of the places; a place that the list has not gives none.
abbrev pub picks : {X : Type 0} → List X → List ℕ → List X
picks xs [] = []
picks xs (place ∷ places) = ahead (slice_get xs place) (picks xs places)
