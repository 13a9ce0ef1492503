-- The block or two that end a message.
use Rattle.std.proofs.Common.{◌≡◌, ℕ, suc, ◌+◌, ◌-◌, ◌*◌, ◌/◌, ◌%◌, ◌<◌, ◌≤◌, List, [], ◌∷◌, ◌++◌, length, take, drop, set, replicate, sym, refl, ap, ◌∙◌, arith}
use Rattle.std.proofs.lemmas.List.{append-nil, append_assoc, drop-drop, drop_all, set-append_right, length-append, length-replicate, replicate-append-replicate, take_at, drop_at, take_all}
use Rattle.sha256.specs.Compression.{compress}
use Rattle.sha256.specs.Standard.{after, padding, eight_bytes}
use Rattle.sha256.specs.declared.words.Words.{Words}

-- A block of zeros with the rest written in front and 128 behind it.
pub ended_is : (rest front blank : List ℕ) (k : ℕ) → front ≡ rest → k ≡ length rest → length rest < 64 → drop k blank ≡ replicate (64 - k) 0 → set (front ++ drop k blank) (length rest) 128 ≡ rest ++ (128 ∷ replicate (63 - length rest) 0)
ended_is rest front blank k same is small zeros =
    let n = length rest in
    let left : 64 - k ≡ suc (63 - length rest) = omega arith in
    let here : length rest - length rest ≡ 0 = omega arith in
    let filler : List ℕ = replicate (suc (63 - length rest)) 0 in
    ap (λ (xs : List ℕ). set (xs ++ drop k blank) n 128) same ∙
    ap (λ (zs : List ℕ). set (rest ++ zs) n 128) (zeros ∙ ap (λ (m : ℕ). replicate m 0) left) ∙
    set-append_right rest filler n n 128 refl (omega arith) ∙
    ap (λ (j : ℕ). rest ++ set filler j 128) here

-- Eight bytes written into the end of a block.
pub put_end : (block last bytes : List ℕ) → length block ≡ 64 → last ≡ bytes → take 56 block ++ (last ++ drop 8 (drop 56 block)) ≡ take 56 block ++ bytes
put_end block last bytes long same =
    let past : drop 8 (drop 56 block) ≡ [] = drop-drop 8 56 block ∙ drop_all 64 block (omega arith) in
    ap (λ (xs : List ℕ). take 56 block ++ (last ++ xs)) past ∙
    ap (λ (xs : List ℕ). take 56 block ++ xs) (append-nil last ∙ same)

length_front : (rest : List ℕ) (m : ℕ) → length (rest ++ (128 ∷ replicate m 0)) ≡ length rest + m + 1
length_front rest m =
    let whole = length-append rest (128 ∷ replicate m 0) in
    let zeros = length-replicate {A = ℕ} m 0 in
    omega arith

-- Zeros in two runs.
split_zeros : (rest tail : List ℕ) (m k j : ℕ) → m + k ≡ j → rest ++ (128 ∷ (replicate j 0 ++ tail)) ≡ (rest ++ (128 ∷ replicate m 0)) ++ (replicate k 0 ++ tail)
split_zeros rest tail m k j sum =
    ap (λ (i : ℕ). rest ++ (128 ∷ (replicate i 0 ++ tail))) (sym sum) ∙
    ap (λ (zs : List ℕ). rest ++ (128 ∷ (zs ++ tail))) (sym (replicate-append-replicate m k 0)) ∙
    ap (λ (zs : List ℕ). rest ++ (128 ∷ zs)) (append_assoc (replicate m 0) (replicate k 0) tail) ∙
    sym (append_assoc rest (128 ∷ replicate m 0) (replicate k 0 ++ tail))

-- With room for the length, the padded rest is one block.
pub one_block : (h : Words) (rest : List ℕ) (size : ℕ) → length rest ≡ size % 64 → length rest < 56 → compress h (take 56 (rest ++ (128 ∷ replicate (63 - length rest) 0)) ++ eight_bytes (8 * size)) ≡ after h (rest ++ padding size) ((length rest + 72) / 64)
unfolding after padding
one_block h rest size is small =
    let n = length rest in
    let bits = eight_bytes (8 * size) in
    let front = rest ++ (128 ∷ replicate (55 - n) 0) in
    let front_long : length front ≡ 56 = omega (arith, length_front rest (55 - n)) in
    let zeros : (119 - size % 64) % 64 ≡ 55 - n = omega arith in
    let count : (n + 72) / 64 ≡ 1 = omega arith in
    let room : 55 - n + 8 ≡ 63 - n = omega arith in
    let block-is : rest ++ (128 ∷ replicate (63 - n) 0) ≡ front ++ replicate 8 0 =
    ap (λ (xs : List ℕ). rest ++ (128 ∷ xs)) (sym (append-nil (replicate (63 - n) 0))) ∙
    split_zeros rest [] (55 - n) 8 (63 - n) room in
    let padded-is : rest ++ (128 ∷ (replicate ((119 - size % 64) % 64) 0 ++ bits)) ≡ front ++ bits =
    split_zeros rest bits (55 - n) 0 ((119 - size % 64) % 64) (omega arith) in
    let whole : length (front ++ bits) ≤ 64 = omega (arith, length-append front bits) in
    ap (λ (xs : List ℕ). compress h (take 56 xs ++ bits)) block-is ∙
    ap (λ (xs : List ℕ). compress h (xs ++ bits)) (take_at front (replicate 8 0) 56 front_long) ∙
    ap (compress h) (sym (take_all 64 (front ++ bits) whole)) ∙
    ap (λ (xs : List ℕ). compress h (take 64 xs)) (sym padded-is) ∙
    ap (after h (rest ++ (128 ∷ (replicate ((119 - size % 64) % 64) 0 ++ bits)))) (sym count)

-- Without it, the length stands in a block of its own.
pub two_blocks : (h : Words) (rest : List ℕ) (size : ℕ) → length rest ≡ size % 64 → 56 ≤ length rest → compress (compress h (rest ++ (128 ∷ replicate (63 - length rest) 0))) (take 56 (replicate 64 0) ++ eight_bytes (8 * size)) ≡ after h (rest ++ padding size) ((length rest + 72) / 64)
unfolding after padding
two_blocks h rest size is large =
    let n = length rest in
    let bits = eight_bytes (8 * size) in
    let front = rest ++ (128 ∷ replicate (63 - n) 0) in
    let back = replicate 56 0 ++ bits in
    let within : size % 64 < 64 = omega arith in
    let front_long : length front ≡ 64 = omega (arith, length_front rest (63 - n)) in
    let count : (n + 72) / 64 ≡ 2 = omega arith in
    let padded-is : rest ++ (128 ∷ (replicate ((119 - size % 64) % 64) 0 ++ bits)) ≡ front ++ back =
    split_zeros rest bits (63 - n) 56 ((119 - size % 64) % 64) (omega arith) in
    ap (λ (xs : List ℕ). compress (compress h xs) back) (sym (take_at front back 64 front_long)) ∙
    ap (λ (xs : List ℕ). compress (compress h (take 64 (front ++ back))) (take 64 xs)) (sym (drop_at front back 64 front_long)) ∙
    ap (λ (xs : List ℕ). compress (compress h (take 64 xs)) (take 64 (drop 64 xs))) (sym padded-is) ∙
    ap (after h (rest ++ (128 ∷ (replicate ((119 - size % 64) % 64) 0 ++ bits)))) (sym count)
