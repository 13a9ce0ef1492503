-- One round more.
use Rattle.std.proofs.Common.{◌≡◌, ℕ, ◌+◌, List, sym, refl, ap, ◌∙◌, add-one}
use Rattle.blake2s.specs.Mixing.{columns, diagonals, rounds}

pub rounds_none : (block v : List ℕ) → v ≡ rounds block v 0
unfolding rounds
rounds_none block v = refl

pub round_more : (block first v middle last : List ℕ) (i : ℕ) → v ≡ rounds block first i → middle ≡ columns block i v → last ≡ diagonals block i middle → last ≡ rounds block first (i + 1)
unfolding rounds
round_more block first v middle last i before half whole =
    whole ∙ ap (diagonals block i) (half ∙ ap (columns block i) before) ∙ ap (rounds block first) (sym (add-one i))
