-- What a call that writes leaves in the vector that it was lent.
use Rattle.std.specs.Prelude.{◌≡◌, ℕ, ◌+◌, ◌<◌, ◌≤◌, true, false, cond, List, [], ◌∷◌, ◌++◌, length, take, is_ok, vec_items, vec_capacity, Result, Vec}
use Rattle.std.specs.declared.alloc.AllocError.{AllocError}

module _ {Z : Type 0} where
  -- The bytes stand at the end; where memory fails, everything is as it was.
  -- Memory fails only where there is not room for them all.
  pub record Appended (before : Vec ℕ Z) (bytes : List ℕ) (r : Result (Unit {0}) AllocError) (after : Vec ℕ Z) : Type 0 where
    pub items : vec_items after ≡ cond (is_ok r) (vec_items before ++ bytes) (vec_items before)
    pub succeeds : length (vec_items before) + length bytes ≤ vec_capacity before → is_ok r ≡ true

  -- The same of a part of a line, where memory may fail after some of the bytes.
  pub record Grown (before : Vec ℕ Z) (bytes : List ℕ) (r : Result (Unit {0}) AllocError) (after : Vec ℕ Z) : Type 0 where
    pub grows : is_ok r ≡ true → vec_items after ≡ vec_items before ++ bytes
    pub keeps : take (length (vec_items before)) (vec_items after) ≡ vec_items before
    pub lacks : is_ok r ≡ false → vec_capacity before < length (vec_items before) + length bytes
    pub room : vec_capacity before ≤ vec_capacity after

  -- What became of a line: it has its end, or it is gone again from its start.
  pub record Finished (before : Vec ℕ Z) (start : ℕ) (written r : Result (Unit {0}) AllocError) (after : Vec ℕ Z) : Type 0 where
    pub items : vec_items after ≡ cond (is_ok r) (vec_items before ++ (10 ∷ [])) (take start (vec_items before))
    pub passes : is_ok r ≡ true → is_ok written ≡ true
    pub lacks : is_ok r ≡ false → is_ok written ≡ true → vec_capacity before < length (vec_items before) + 1

  -- Whatever a call may answer and leave, it put this text at the end.
  abbrev pub Puts : (Result (Unit {0}) AllocError → Vec ℕ Z → Type 0) → Vec ℕ Z → List ℕ → Type 0
  Puts may_leave before text = (r : Result (Unit {0}) AllocError) (after : Vec ℕ Z) → may_leave r after → Grown before text r after

  -- What became of a line whose text a call put, whatever that call answered and left.
  pub record Closed (may_leave : Result (Unit {0}) AllocError → Vec ℕ Z → Type 0) (before : Vec ℕ Z) (r : Result (Unit {0}) AllocError) (after : Vec ℕ Z) : Type 0 where
    pub written : Result (Unit {0}) AllocError
    pub between : Vec ℕ Z
    pub left : may_leave written between
    pub finished : Finished between (length (vec_items before)) written r after
