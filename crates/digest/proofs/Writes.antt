-- A buffer with bytes written at a place.
use Rattle.std.proofs.Common.{◌≡◌, ℕ, ◌+◌, ◌≤◌, List, ◌++◌, length, take, drop, sym, ap, ◌∙◌}
use Rattle.std.proofs.lemmas.List.{append_assoc, length-append, length-take-le, take_at}

-- Bytes written behind those pending.
pub written : (pending few : List ℕ) (n : ℕ) → n ≤ length pending → take (n + length few) (take n pending ++ (few ++ drop (length few) (drop n pending))) ≡ take n pending ++ few
written pending few n within =
    let front = take n pending in
    let past = drop (length few) (drop n pending) in
    let long : length (front ++ few) ≡ n + length few =
    length-append front few ∙ ap (λ (k : ℕ). k + length few) (length-take-le n pending within) in
    ap (take (n + length few)) (sym (append_assoc front few past)) ∙ take_at (front ++ few) past (n + length few) long

-- The same as the code writes them: ys at the place a, over k bytes.
pub placed : (xs ys few : List ℕ) (a k n : ℕ) → a ≡ n → k ≡ length few → ys ≡ few → take a xs ++ (ys ++ drop k (drop a xs)) ≡ take n xs ++ (few ++ drop (length few) (drop n xs))
placed xs ys few a k n a-is k-is ys-is =
    ap (λ (i : ℕ). take i xs ++ (ys ++ drop k (drop i xs))) a-is ∙
    ap (λ (i : ℕ). take n xs ++ (ys ++ drop i (drop n xs))) k-is ∙
    ap (λ (zs : List ℕ). take n xs ++ (zs ++ drop (length few) (drop n xs))) ys-is
