-- Every entry of the schedule's table names one of the sixteen words.
use Rattle.std.proofs.Common.{◌≡◌, ℕ, zero, suc, ◌<◌, Bool, true, ◌&&◌, ltb, List, [], ◌∷◌, get_or, refl, lit<}
use Rattle.std.proofs.lemmas.Bool.{ltb-true, and_parts}
use Rattle.blake2s.specs.Constants.{SIGMA}

abbrev row_test : List ℕ → Bool
row_test [] = true
row_test (x ∷ xs) = ltb x 16 && row_test xs

abbrev table_test : List (List ℕ) → Bool
table_test [] = true
table_test (row ∷ rows) = row_test row && table_test rows

row_below : (xs : List ℕ) → row_test xs ≡ true → (j : ℕ) → get_or xs j 0 < 16
row_below [] passed j = lit< tt
row_below (x ∷ xs) passed zero = ltb-true x 16 (and_parts (ltb x 16) (row_test xs) passed).0
row_below (x ∷ xs) passed (suc j) = row_below xs (and_parts (ltb x 16) (row_test xs) passed).1 j

table_below : (rows : List (List ℕ)) → table_test rows ≡ true → (i j : ℕ) → get_or (get_or rows i []) j 0 < 16
table_below [] passed i j = lit< tt
table_below (row ∷ rows) passed zero j = row_below row (and_parts (row_test row) (table_test rows) passed).0 j
table_below (row ∷ rows) passed (suc i) j = table_below rows (and_parts (row_test row) (table_test rows) passed).1 i j

pub sigma_below : (i j : ℕ) → get_or (get_or SIGMA i []) j 0 < 16
sigma_below = table_below SIGMA refl
