-- One round more.
use Rattle.std.proofs.Common.{◌≡◌, ℕ, suc, ◌+◌, List, [], ◌∷◌, get_or, sym, ap, ◌∙◌, add-suc, add-one, arith}
use Rattle.sha256.specs.Constants.{K}
use Rattle.sha256.specs.Compression.{step, rounds}
use Rattle.sha256.specs.Windows.{half_window}
use Rattle.sha256.specs.declared.words.Words.{Words}

pub round_more : (h : Words) (ws : List ℕ) (t : ℕ) (k : ℕ) {v made : Words} {w : ℕ} → v ≡ rounds h ws (t + k) → w ≡ get_or ws (t + k) 0 → made ≡ step v (get_or K (t + k) 0) w → made ≡ rounds h ws (t + suc k)
unfolding rounds
round_more h ws t k {v} {made} {w} before word is =
    is ∙ simp (before, word) (ap (rounds h ws) (sym (add-suc t k)))

-- The same at k = 0, as the code writes it.
pub round_first : (h : Words) (ws : List ℕ) (t : ℕ) {v made : Words} {w : ℕ} → v ≡ rounds h ws t → w ≡ get_or ws t 0 → made ≡ step v (get_or K t 0) w → made ≡ rounds h ws (t + 1)
unfolding rounds
round_first h ws t {v} {made} {w} before word is =
    is ∙ simp (before, word) (ap (rounds h ws) (sym (add-one t)))

-- The second half of a window.
pub later_half : (ws : List ℕ) (t : ℕ) → get_or ws (t + 8) 0 ∷ get_or ws (t + 9) 0 ∷ get_or ws (t + 10) 0 ∷ get_or ws (t + 11) 0 ∷ get_or ws (t + 12) 0 ∷ get_or ws (t + 13) 0 ∷ get_or ws (t + 14) 0 ∷ get_or ws (t + 15) 0 ∷ [] ≡ half_window ws (t + 8)
later_half ws t =
    let e1 : t + 9 ≡ t + 8 + 1 = omega arith in
    let e2 : t + 10 ≡ t + 8 + 2 = omega arith in
    let e3 : t + 11 ≡ t + 8 + 3 = omega arith in
    let e4 : t + 12 ≡ t + 8 + 4 = omega arith in
    let e5 : t + 13 ≡ t + 8 + 5 = omega arith in
    let e6 : t + 14 ≡ t + 8 + 6 = omega arith in
    let e7 : t + 15 ≡ t + 8 + 7 = omega arith in
    simp (e1, e2, e3, e4, e5, e6, e7)
