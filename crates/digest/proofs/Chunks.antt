-- A list as blocks of n elements in a row.
use Rattle.std.proofs.Common.{◌≡◌, ℕ, zero, suc, ◌+◌, ◌*◌, ◌<◌, List, [], ◌∷◌, ◌++◌, get_or, take, drop, sym, refl, ap, ◌∙◌, add_comm, mul-zero, mul-suc, arith}
use Rattle.std.specs.Simd.{first_chunks}
use Rattle.std.proofs.lemmas.List.{append_assoc, drop-drop, drop-take, get_or-drop, get_or-take, take-append-drop, take-take}

-- The block i.
pub get_or_chunked : (n k : ℕ) (xs : List ℕ) (i : ℕ) → i < k → get_or (first_chunks n k xs) i [] ≡ take n (drop (n * i) xs)
get_or_chunked n zero xs i within = absurd (omega arith)
get_or_chunked n (suc k) xs zero within = ap (λ (j : ℕ). take n (drop j xs)) (sym (mul-zero n))
get_or_chunked n (suc k) xs (suc i) within =
    get_or_chunked n k (drop n xs) i (omega arith) ∙ ap (take n) (drop-drop (n * i) n xs) ∙
    ap (λ (j : ℕ). take n (drop j xs)) (add_comm n (n * i) ∙ sym (mul-suc n i))

-- The byte i of the word t, where a word has four bytes.
pub byte_of_word : (k : ℕ) (xs : List ℕ) (t i : ℕ) → t < k → i < 4 → get_or (get_or (first_chunks 4 k xs) t []) i 0 ≡ get_or xs (4 * t + i) 0
byte_of_word k xs t i within small =
    ap (λ (ys : List ℕ). get_or ys i 0) (get_or_chunked 4 k xs t within) ∙ get_or-take 4 (drop (4 * t) xs) i 0 small ∙
    get_or-drop (4 * t) xs i 0

-- The first k blocks of as many elements as they have.
pub chunked_take : (n k : ℕ) (xs : List ℕ) → first_chunks n k (take (n * k) xs) ≡ first_chunks n k xs
chunked_take n zero xs = refl
chunked_take n (suc k) xs =
    let size : n * suc k ≡ n + n * k = mul-suc n k ∙ add_comm (n * k) n in
    ap (λ (j : ℕ). first_chunks n (suc k) (take j xs)) size ∙
    ap (λ (front : List ℕ). front ∷ first_chunks n k (drop n (take (n + n * k) xs))) (take-take n (n + n * k) xs (omega arith)) ∙
    ap (λ (rest : List ℕ). take n xs ∷ first_chunks n k rest) (drop-take n (n * k) xs) ∙
    ap (λ (blocks : List (List ℕ)). take n xs ∷ blocks) (chunked_take n k (drop n xs))

-- Some bytes, then a part of a message in three pieces: up to the place `cut`, j bytes from there, and the others.
pub rejoined : (bytes part front rest tail : List ℕ) (cut j : ℕ) → front ≡ take cut part → rest ≡ drop cut part → tail ≡ drop j rest → ((bytes ++ front) ++ take j rest) ++ tail ≡ bytes ++ part
rejoined bytes part front rest tail cut j front-is rest-is tail-is =
    ap (λ (xs : List ℕ). ((bytes ++ front) ++ take j rest) ++ xs) tail-is ∙
    append_assoc (bytes ++ front) (take j rest) (drop j rest) ∙
    ap (λ (xs : List ℕ). (bytes ++ front) ++ xs) (take-append-drop j rest ∙ rest-is) ∙
    ap (λ (xs : List ℕ). (bytes ++ xs) ++ drop cut part) front-is ∙
    append_assoc bytes (take cut part) (drop cut part) ∙ ap (λ (xs : List ℕ). bytes ++ xs) (take-append-drop cut part)
