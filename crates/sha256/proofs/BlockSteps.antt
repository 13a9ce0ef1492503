-- The hash value, block by block.
use Rattle.std.proofs.Common.{◌≡◌, ℕ, zero, suc, ◌+◌, ◌*◌, ◌<◌, ◌≤◌, List, [], ◌++◌, length, get_or, take, drop, sym, refl, ap, ◌∙◌, add-zero, add-suc, add-one, arith}
use Rattle.std.proofs.lemmas.List.{length-drop, drop-drop, drop-append-le, take-append-le}
use Rattle.std.specs.Simd.{first_chunks}
use Rattle.digest.proofs.Chunks.{get_or_chunked}
use Rattle.sha256.specs.Compression.{compress}
use Rattle.sha256.specs.Standard.{after, block_of}
use Rattle.sha256.specs.declared.words.Words.{Words}

-- One block more, as a loop over the blocks has it.
pub block_more : (h v made : Words) (bytes : List ℕ) (blocks : List (List ℕ)) (k i : ℕ) → blocks ≡ first_chunks 64 k bytes → i < k → v ≡ after h bytes i → made ≡ compress v (get_or blocks i []) → made ≡ after h bytes (i + 1)
unfolding after
block_more h v made bytes blocks k i are within before is =
    is ∙ ap (λ (u : Words). compress u (get_or blocks i [])) before ∙
    ap (λ (bs : List (List ℕ)). compress (after h bytes i) (get_or bs i [])) are ∙
    ap (compress (after h bytes i)) (get_or_chunked 64 k bytes i within) ∙
    ap (after h bytes) (sym (add-one i))

-- The first k blocks do not see what comes behind them.
pub after_front : (h : Words) (xs ys : List ℕ) (k : ℕ) → 64 * k ≤ length xs → after h (xs ++ ys) k ≡ after h xs k
unfolding after
after_front h xs ys zero within = refl
after_front h xs ys (suc k) within =
    let next : 64 * k + 64 ≤ length xs = omega arith in
    let room : 64 ≤ length (drop (64 * k) xs) = omega (arith, length-drop (64 * k) xs) in
    ap (λ (v : Words). compress v (block_of (xs ++ ys) k)) (after_front h xs ys k (omega arith)) ∙
    ap (λ (bs : List ℕ). compress (after h xs k) (take 64 bs)) (drop-append-le (64 * k) xs ys (omega arith)) ∙
    ap (compress (after h xs k)) (take-append-le 64 (drop (64 * k) xs) ys room)

-- Blocks in two runs.
pub after_rest : (h : Words) (bytes : List ℕ) (k j : ℕ) → after (after h bytes k) (drop (64 * k) bytes) j ≡ after h bytes (k + j)
unfolding after
after_rest h bytes k zero = ap (after h bytes) (sym (add-zero k))
after_rest h bytes k (suc j) =
    let place : 64 * k + 64 * j ≡ 64 * (k + j) = omega arith in
    ap (λ (v : Words). compress v (block_of (drop (64 * k) bytes) j)) (after_rest h bytes k j) ∙
    ap (λ (bs : List ℕ). compress (after h bytes (k + j)) (take 64 bs)) (drop-drop (64 * j) (64 * k) bytes) ∙
    ap (λ (i : ℕ). compress (after h bytes (k + j)) (take 64 (drop i bytes))) place ∙
    ap (after h bytes) (sym (add-suc k j))
