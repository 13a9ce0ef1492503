-- What a run in places of its own holds, and what is put into it and taken out.
use Rattle.std.specs.Prelude.{ℕ, Bool, cond, List, [], ◌∷◌, ◌++◌, length, take, Ok, Err, Result, nat_lt}
use Rattle.std.specs.List.{remove}
use Rattle.slices.specs.declared.insertion.Full.{Full}
use Rattle.slices.specs.declared.removal.NoSuchPlace.{NoSuchPlace}
use Rattle.slices.specs.declared.run.Run.{Run}
use Rattle.slices.specs.Order.{placed}

abbrev pub elements : {T : Type 0} {n : ℕ} → Run T n → List T
elements run = take run.len run.places

-- With n places, one more element is refused exactly where n are there.
abbrev pub room_answer : {T : Type 0} → ℕ → List T → Result (Unit {0}) Full
room_answer n xs = cond (nat_lt (length xs) n) (Ok tt) (Err (record {}))

-- The elements with x at its place in the order, if there is room.
abbrev pub inserted : {T : Type 0} → (T → T → Bool) → ℕ → T → List T → List T
inserted at_most n x xs = cond (nat_lt (length xs) n) (placed at_most x xs) xs

-- The elements with x behind them, if there is room.
abbrev pub appended : {T : Type 0} → ℕ → T → List T → List T
appended n x xs = cond (nat_lt (length xs) n) (xs ++ x ∷ []) xs

-- One is taken out of each place that there is.
abbrev pub place_answer : {T : Type 0} → List T → ℕ → Result (Unit {0}) NoSuchPlace
place_answer xs at = cond (nat_lt at (length xs)) (Ok tt) (Err (record {}))

-- The elements without the one at a place; all of them where there is no such place.
abbrev pub without : {T : Type 0} → List T → ℕ → List T
without xs at = cond (nat_lt at (length xs)) (remove xs at) xs
