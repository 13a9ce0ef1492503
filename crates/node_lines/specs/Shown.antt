-- Parts of a line that shows a node.
use Rattle.std.specs.Prelude.{ℕ, List, [], ◌∷◌, ◌++◌}
use Rattle.std.specs.List.{flat_map}

-- A text with what follows it, or nothing where nothing follows.
abbrev pub after_text : {X : Type 0} → List ℕ → (X → List ℕ) → List X → List ℕ
after_text text shown [] = []
after_text text shown (x ∷ xs) = text ++ flat_map shown (x ∷ xs)
