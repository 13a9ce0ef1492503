-- The words of a line: what stands before a '#', cut at spaces and tabs.
use Rattle.std.specs.Prelude.{ℕ, Bool, cond, ◌||◌, List, [], ◌∷◌, Some, None, Option, ◌==◌}

-- '#'
abbrev pub begins_comment : ℕ → Bool
begins_comment c = c == 35

-- A space or a tab.
abbrev pub is_separator : ℕ → Bool
is_separator c = c == 32 || c == 9

-- The line without its comment.
abbrev pub uncommented : List ℕ → List ℕ
uncommented [] = []
uncommented (c ∷ cs) = cond (begins_comment c) [] (c ∷ uncommented cs)

abbrev pub before_first : ℕ → List (List ℕ) → List (List ℕ)
before_first c [] = (c ∷ []) ∷ []
before_first c (piece ∷ pieces) = (c ∷ piece) ∷ pieces

-- What stands between the separators, nothing at all among it.
abbrev pub pieces : List ℕ → List (List ℕ)
pieces [] = [] ∷ []
pieces (c ∷ cs) = cond (is_separator c) ([] ∷ pieces cs) (before_first c (pieces cs))

abbrev pub without_empty : List (List ℕ) → List (List ℕ)
without_empty [] = []
without_empty ([] ∷ rest) = without_empty rest
without_empty ((c ∷ cs) ∷ rest) = (c ∷ cs) ∷ without_empty rest

abbrev pub words_of : List ℕ → List (List ℕ)
words_of line = without_empty (pieces (uncommented line))

-- A word, if there is one, before others.
abbrev pub before_words : Option (List ℕ) → List (List ℕ) → List (List ℕ)
before_words None rest = []
before_words (Some word) rest = word ∷ rest
