-- Fields beyond those used are filled.
use Rattle.std.proofs.Common.{◌≡◌, ℕ, ◌+◌, ◌-◌, ◌<◌, ◌≤◌, min, List, ◌++◌, length, take, drop, replicate, sym, ap, ◌∙◌, ⊎_elim, arith, leb}
use Rattle.std.proofs.Math.Seq.{take-append-add}
use Rattle.std.proofs.lemmas.List.{append-nil, take-append-le, take-replicate, drop-replicate, take_all}
use Rattle.std.proofs.lemmas.Bool.{cases_Bool, leb-true, leb-false}
use Rattle.search.specs.Sheet.{filled_to}

pub filled_lem : {X : Type 0} (count used : ℕ) (filler : X) (xs : List X) → used ≡ min (length xs) count → take used xs ++ drop used (replicate count filler) ≡ filled_to count filler xs
filled_lem {X} count used filler xs is = ⊎_elim (λ t. some (leb-true _ _ t)) (λ f. all (leb-false _ _ f)) (cases_Bool (leb (length xs) count))
  where
    rest : drop used (replicate count filler) ≡ replicate (count - used) filler
    rest = drop-replicate used count filler

    some : length xs ≤ count → take used xs ++ drop used (replicate count filler) ≡ filled_to count filler xs
    some h =
        let whole : take used xs ≡ xs = take_all used xs (omega (arith, is)) in
        let same : count - used ≡ count - length xs = omega (arith, is) in
        let sum : length xs + (count - length xs) ≡ count = omega arith in
        ap (λ (t : List X). t ++ drop used (replicate count filler)) whole
        ∙ ap (λ (t : List X). xs ++ t) (rest ∙ ap (λ (n : ℕ). replicate n filler) same ∙ sym (take-replicate (count - length xs) count filler (omega arith)))
        ∙ sym (take-append-add xs (replicate count filler) (count - length xs))
        ∙ ap (λ (n : ℕ). take n (xs ++ replicate count filler)) sum

    all : count < length xs → take used xs ++ drop used (replicate count filler) ≡ filled_to count filler xs
    all h =
        let same : used ≡ count = omega (arith, is) in
        let none : count - used ≡ 0 = omega (arith, same) in
        ap (λ (t : List X). take used xs ++ t) (rest ∙ ap (λ (n : ℕ). replicate n filler) none)
        ∙ append-nil (take used xs) ∙ ap (λ (n : ℕ). take n xs) same ∙ sym (take-append-le count xs (replicate count filler) (omega arith))
