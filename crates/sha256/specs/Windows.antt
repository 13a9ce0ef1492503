-- The message schedule as the code keeps it, sixteen words at a time.
use Rattle.std.specs.Prelude.{ℕ, ◌+◌, List, [], ◌∷◌, slice_index}

-- The words t to t + 15 of ws, and the words t to t + 7.
abbrev pub window : List ℕ → ℕ → List ℕ
window ws t =
    slice_index ws t ∷ slice_index ws (t + 1) ∷ slice_index ws (t + 2) ∷ slice_index ws (t + 3) ∷
    slice_index ws (t + 4) ∷ slice_index ws (t + 5) ∷ slice_index ws (t + 6) ∷ slice_index ws (t + 7) ∷
    slice_index ws (t + 8) ∷ slice_index ws (t + 9) ∷ slice_index ws (t + 10) ∷ slice_index ws (t + 11) ∷
    slice_index ws (t + 12) ∷ slice_index ws (t + 13) ∷ slice_index ws (t + 14) ∷ slice_index ws (t + 15) ∷ []

abbrev pub half_window : List ℕ → ℕ → List ℕ
half_window ws t =
    slice_index ws t ∷ slice_index ws (t + 1) ∷ slice_index ws (t + 2) ∷ slice_index ws (t + 3) ∷
    slice_index ws (t + 4) ∷ slice_index ws (t + 5) ∷ slice_index ws (t + 6) ∷ slice_index ws (t + 7) ∷ []
