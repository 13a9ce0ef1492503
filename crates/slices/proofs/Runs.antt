-- A run that has room for one element more, or has none.
use Rattle.std.proofs.Common.{◌≡◌, ℕ, ◌<◌, ◌≤◌, Bool, List, length, Ok, Err, ◌∙◌, arith}
use Rattle.std.proofs.lemmas.Bool.{cond-true, cond-false, lt-ltb, le-ltb}
use Rattle.slices.specs.declared.insertion.Full.{Full}
use Rattle.slices.specs.Order.{placed}
use Rattle.slices.specs.Runs.{room_answer, inserted}

module _ {X : Type 0} (n : ℕ) (xs : List X) (room : length xs < n) where
  pub inserted_with_room : (at_most : X → X → Bool) (x : X) → inserted at_most n x xs ≡ placed at_most x xs
  inserted_with_room at_most x = cond-true _ (placed at_most x xs) xs (lt-ltb (length xs) n room)

  pub never_full : (e : Full) → Err e ≡ room_answer n xs → ⊥
  never_full e is =
      let both : Err e ≡ Ok (tt {0}) = is ∙ cond-true _ (Ok (tt {0})) (Err (record {})) (lt-ltb (length xs) n room) in
      let z : ◌≡◌ {A = ℕ} 0 1 = cc in omega arith

pub inserted_without_room : {X : Type 0} (n : ℕ) (xs : List X) → n ≤ length xs → (at_most : X → X → Bool) (x : X) → inserted at_most n x xs ≡ xs
inserted_without_room n xs full at_most x = cond-false _ (placed at_most x xs) xs (le-ltb (length xs) n full)
