-- What a stack in lent places holds, and what a push and a pop do with it.
use Rattle.std.specs.Prelude.{Bool, cond, List, [], ◌∷◌, reverse, length, take, Some, None, Ok, Err, Option, Result, nat_lt, slice_set}
use Rattle.slices.specs.declared.stack.Stack.{Stack}

-- The entries, newest first.
abbrev pub contents : {T : Type 0} → Stack T → List T
contents s = reverse (take s.len s.places.now)

-- Fewer entries wait than there are places.
abbrev pub has_free_place : {T : Type 0} → Stack T → Bool
has_free_place s = nat_lt (length (contents s)) (length s.places.now)

-- A push is refused, and gives its entry back, exactly where every place is taken.
abbrev pub pushed_answer : {T : Type 0} → Stack T → T → Result (Unit {0}) T
pushed_answer s x = cond (has_free_place s) (Ok tt) (Err x)

abbrev pub pushed_contents : {T : Type 0} → Stack T → T → List T
pushed_contents s x = cond (has_free_place s) (x ∷ contents s) (contents s)

-- The lent places after a push: the entry stands at the first free one.
abbrev pub pushed_places : {T : Type 0} → Stack T → T → List T
pushed_places s x = cond (has_free_place s) (slice_set s.places.now s.len x) s.places.now

-- The first of a list, and the others.
abbrev pub first : {T : Type 0} → List T → Option T
first [] = None
first (x ∷ xs) = Some x

abbrev pub others : {T : Type 0} → List T → List T
others [] = []
others (x ∷ xs) = xs

-- A pop takes the newest entry.
abbrev pub popped_answer : {T : Type 0} → Stack T → Option T
popped_answer s = first (contents s)

abbrev pub popped_contents : {T : Type 0} → Stack T → List T
popped_contents s = others (contents s)
