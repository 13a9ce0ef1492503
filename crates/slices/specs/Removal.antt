-- What a removal from the run of the first `len` elements of a slice does.
use Rattle.std.specs.Prelude.{ℕ, ◌-◌, Bool, cond, ◌&&◌, List, ◌++◌, length, take, drop, Ok, Err, Result, nat_le, nat_lt}
use Rattle.std.specs.List.{remove}
use Rattle.slices.specs.declared.removal.NoSuchPlace.{NoSuchPlace}

-- The slice has a run of that length, and the run has that place.
abbrev pub has_place : {X : Type 0} → List X → ℕ → ℕ → Bool
has_place slice len at = nat_le len (length slice) && nat_lt at len

-- The new length, or the refusal.
abbrev pub removed_length : {X : Type 0} → List X → ℕ → ℕ → Result ℕ NoSuchPlace
removed_length slice len at = cond (has_place slice len at) (Ok (len - 1)) (Err (record {}))

-- The slice afterwards: the run without that element, and from its new end on all as it was; all as it was if refused.
abbrev pub removed_slice : {X : Type 0} → List X → ℕ → ℕ → List X
removed_slice slice len at =
    cond (has_place slice len at) (remove (take len slice) at ++ drop (len - 1) slice) slice
