-- Encodings of several items in a row.
use Rattle.std.proofs.Common.{◌≡◌, ℕ, ◌+◌, ◌*◌, ◌<◌, ◌≤◌, List, [], ◌∷◌, ◌++◌, length, get_or, take, drop, sym, refl, ap, ◌∙◌, append_assoc, mul-zero, mul-suc, arith, length-append}
use Rattle.std.specs.List.{flat_map, AllByRecursion}
use Rattle.std.proofs.lemmas.List.{append-nil, take_more, take-append-drop}
use Rattle.node.specs.Writing.{put_at}
use Rattle.node.proofs.Buffers.{put_more}

pub joined_append : {X : Type 0} (f : X → List ℕ) (xs ys : List X) → flat_map f (xs ++ ys) ≡ flat_map f xs ++ flat_map f ys
joined_append f [] ys = refl
joined_append f (x ∷ xs) ys =
    ap (λ t. f x ++ t) (joined_append f xs ys) ∙ sym (append_assoc (f x) (flat_map f xs) (flat_map f ys))

-- one item more
pub joined_next : {X : Type 0} (f : X → List ℕ) (xs : List X) (i : ℕ) (d : X) → i < length xs
    → flat_map f (take i xs) ++ f (get_or xs i d) ≡ flat_map f (take (i + 1) xs)
joined_next f xs i d within =
    ap (λ t. flat_map f (take i xs) ++ t) (sym (append-nil (f (get_or xs i d))))
    ∙ sym (joined_append f (take i xs) (get_or xs i d ∷ []))
    ∙ ap (flat_map f) (sym (take_more xs i d within))

-- the item at i stands within the whole
pub joined_within : {X : Type 0} (f : X → List ℕ) (xs : List X) (i : ℕ) (d : X) → i < length xs
    → length (flat_map f (take i xs)) + length (f (get_or xs i d)) ≤ length (flat_map f xs)
joined_within f xs i d within =
    let split : flat_map f xs ≡ flat_map f (take (i + 1) xs) ++ flat_map f (drop (i + 1) xs) =
    ap (flat_map f) (sym (take-append-drop (i + 1) xs)) ∙ joined_append f (take (i + 1) xs) (drop (i + 1) xs) in
    omega (arith, ap length split, length-append (flat_map f (take (i + 1) xs)) (flat_map f (drop (i + 1) xs)), ap length (joined_next f xs i d within), length-append (flat_map f (take i xs)) (f (get_or xs i d)))

pub joined_length : {X : Type 0} (f : X → List ℕ) (n : ℕ) (xs : List X) → AllByRecursion (λ x. length (f x) ≡ n) xs → length (flat_map f xs) ≡ n * length xs
joined_length f n [] all = sym (mul-zero n)
joined_length f n (x ∷ xs) all =
    length-append (f x) (flat_map f xs)
    ∙ omega (arith, all.0, joined_length f n xs all.1, mul-suc n (length xs))

-- one item more in a buffer
pub put_next : {X : Type 0} (f : X → List ℕ) (xs : List X) (buffer now bytes : List ℕ) (at end i : ℕ) (d : X)
    → i < length xs → at ≤ length buffer → now ≡ put_at buffer at (flat_map f (take i xs)) → end ≡ at + length (flat_map f (take i xs))
    → bytes ≡ f (get_or xs i d) → put_at now end bytes ≡ put_at buffer at (flat_map f (take (i + 1) xs))
put_next f xs buffer now bytes at end i d within room is place same =
    ap (λ t. put_at t end bytes) is ∙ ap (put_at (put_at buffer at (flat_map f (take i xs))) end) same
    ∙ put_more buffer at end (flat_map f (take i xs)) (f (get_or xs i d)) room place
    ∙ ap (put_at buffer at) (joined_next f xs i d within)

pub end_next : {X : Type 0} (f : X → List ℕ) (xs : List X) (bytes : List ℕ) (at end i : ℕ) (d : X)
    → i < length xs → end ≡ at + length (flat_map f (take i xs)) → bytes ≡ f (get_or xs i d)
    → end + length bytes ≡ at + length (flat_map f (take (i + 1) xs))
end_next f xs bytes at end i d within place same =
    omega (arith, ap length same, ap length (joined_next f xs i d within), length-append (flat_map f (take i xs)) (f (get_or xs i d)))
