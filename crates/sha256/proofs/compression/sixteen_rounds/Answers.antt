use Rattle.std.proofs.Common.{◌≡◌, ℕ, ◌+◌, List, [], ◌∷◌, get_or, ap, ◌∙◌, arith}
use Rattle.sha256.specs.Compression.{rounds}
use Rattle.sha256.proofs.RoundSteps.{later_half}
use Rattle.sha256.proofs.compression.sixteen_rounds.Goals as goal

pub returns : goal.returns
returns c =
    λ h ws before words.
    let first = ap (λ (xs : List ℕ). get_or xs 0 0 ∷ get_or xs 1 0 ∷ get_or xs 2 0 ∷ get_or xs 3 0 ∷ get_or xs 4 0 ∷ get_or xs 5 0 ∷ get_or xs 6 0 ∷ get_or xs 7 0 ∷ []) words in
    let last = ap (λ (xs : List ℕ). get_or xs 8 0 ∷ get_or xs 9 0 ∷ get_or xs 10 0 ∷ get_or xs 11 0 ∷ get_or xs 12 0 ∷ get_or xs 13 0 ∷ get_or xs 14 0 ∷ get_or xs 15 0 ∷ []) words ∙ later_half ws c.args.t in
    let whole : c.args.t + 8 + 8 ≡ c.args.t + 16 = omega arith in
    c.eight_rounds.ensures h ws (c.eight_rounds-half.ensures h ws before first) last ∙ ap (rounds h ws) whole
