-- Places that are all set to one value.
use Rattle.std.proofs.Common.{◌≡◌, ℕ, ◌-◌, List, [], ◌∷◌, ◌++◌, length, take, drop, length-take, length-drop, replicate, min, refl, ap, ◌∙◌, subst, arith}
use Rattle.std.specs.List.{FoldsTo}
use Rattle.std.proofs.lemmas.List.{drop_all, append-nil, take_min}
use borrow.Rule.Slice.PartMut.{put_mid}

-- What a run of calls gave that each gave x and left the state as it was.
pub one_value : {P X : Type 0} (R : P → X → P → Type 0) (p : P) (x : X) → ((y : X) (q : P) → R p y q → (q ≡ p) × (y ≡ x))
    → (ys : List X) (last : P) → FoldsTo R p ys last → ys ≡ replicate (length ys) x
one_value R p x each [] last ran = refl
one_value R p x each (y ∷ ys) last ran =
    let call = each y ran.0 ran.1 in
    let rest = one_value R p x each ys last (subst (λ q. FoldsTo R q ys last) call.0 ran.2) in
    ap (λ z. z ∷ ys) call.1 ∙ ap (λ t. x ∷ t) rest

pub filled_from : {X : Type 0} (xs ys : List X) (from at : ℕ) (x : X) → at ≡ min from (length xs) → ys ≡ replicate (length ys) x
    → length ys ≡ length (take (length xs - at) (drop at xs)) → put_mid at (length xs - at) xs ys ≡ take from xs ++ replicate (length xs - from) x
filled_from xs ys from at x is same long =
    let many : length ys ≡ length xs - from = long ∙ length-take (length xs - at) (drop at xs) ∙ omega (arith, is, length-drop at xs) in
    ap (λ t. take at xs ++ (ys ++ t)) (drop_all (length xs - at) (drop at xs) (omega (arith, length-drop at xs)))
    ∙ ap (λ t. take at xs ++ t) (append-nil ys)
    ∙ ap (λ t. t ++ ys) (ap (λ n. take n xs) is ∙ take_min from xs)
    ∙ ap (λ t. take from xs ++ t) (same ∙ ap (λ n. replicate n x) many)
