-- A list of the code halved held the bush of its meanings is.
use Rattle.std.proofs.Common.{◌≡◌, ℕ, suc, ◌+◌, ◌-◌, ◌<◌, List, [], ◌∷◌, map, length, get_or, take, drop, sym, refl, ap, ◌∙◌, add-one, arith}
use Rattle.std.proofs.lemmas.List.{length-map, length-drop, take_all, get_or-map, get_or_default, take-map, drop-map}
use Rattle.zone_figure.specs.Halving.{bare, fork, bush_of}
use Rattle.zone_figure.proofs.Halving.{Halves, is_halved}

-- the part of a slice from a place on, as the code cuts it
abbrev pub from : {X : Type 0} → ℕ → List X → List X
from at xs = take (length xs - at) (drop at xs)

from_is : {X : Type 0} (at : ℕ) (xs : List X) → from at xs ≡ drop at xs
from_is at xs = take_all (length xs - at) (drop at xs) (omega (arith, length-drop at xs))

module _ {X : Type 0} (before : ℕ → ℕ) (halves : Halves before) where
  forked_at : (xs : List X) (at : ℕ) (d : X) → at ≡ before (length xs) → at < length xs
      → bush_of before xs ≡ fork (bush_of before (take at xs)) (get_or xs at d) (bush_of before (drop (at + 1) xs))
  forked_at [] at d is inside = absurd (omega arith)
  forked_at (x ∷ xs) at d is inside =
      (is_halved before halves).forked x xs
      ∙ ap (λ (k : ℕ). fork (bush_of before (take k (x ∷ xs))) (get_or (x ∷ xs) k x) (bush_of before (drop (suc k) (x ∷ xs)))) (sym is)
      ∙ ap (λ (y : X). fork (bush_of before (take at (x ∷ xs))) y (bush_of before (drop (suc at) (x ∷ xs)))) (get_or_default (x ∷ xs) at x d inside)
      ∙ ap (λ (k : ℕ). fork (bush_of before (take at (x ∷ xs))) (get_or (x ∷ xs) at d) (bush_of before (drop k (x ∷ xs)))) (sym (add-one at))

  module _ {A : Type 0} (meaning : A → X) where
    pub none_halved : (held : List A) → length held ≡ 0 → bush_of before (map meaning held) ≡ bare
    none_halved [] h = refl
    none_halved (a ∷ held) h = absurd (omega arith)

    pub map_halved : (held : List A) (at : ℕ) (a : A) → at ≡ before (length held) → at < length held → a ≡ get_or held at a
        → bush_of before (map meaning held) ≡ fork (bush_of before (map meaning (take at held))) (meaning a) (bush_of before (map meaning (from (at + 1) held)))
    map_halved held at a is inside read =
        forked_at (map meaning held) at (meaning a) (is ∙ ap before (sym (length-map held meaning))) (omega (arith, length-map held meaning))
        ∙ ap (λ (xs : List X). fork (bush_of before xs) (get_or (map meaning held) at (meaning a)) (bush_of before (drop (at + 1) (map meaning held)))) (take-map meaning at held)
        ∙ ap (λ (x : X). fork (bush_of before (map meaning (take at held))) x (bush_of before (drop (at + 1) (map meaning held)))) (get_or-map meaning held at a (meaning a) inside ∙ ap meaning (sym read))
        ∙ ap (λ (xs : List X). fork (bush_of before (map meaning (take at held))) (meaning a) (bush_of before xs)) (drop-map meaning (at + 1) held)
        ∙ ap (λ (rest : List A). fork (bush_of before (map meaning (take at held))) (meaning a) (bush_of before (map meaning rest))) (sym (from_is (at + 1) held))
