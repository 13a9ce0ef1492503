-- The state, block by block.
use Rattle.std.proofs.Common.{◌≡◌, ℕ, ◌+◌, ◌-◌, ◌*◌, ◌<◌, ◌≤◌, true, false, List, [], ◌++◌, length, get_or, take, drop, replicate, sym, refl, ap, ◌∙◌, add-one, arith}
use Rattle.std.specs.Simd.{first_chunks}
use Rattle.std.proofs.lemmas.List.{append-nil, drop-drop, drop-replicate, length-drop, take_all}
use Rattle.digest.proofs.Chunks.{get_or_chunked}
use Rattle.blake2s.specs.Mixing.{F}
use Rattle.blake2s.specs.Standard.{first_state, after, block_of, filled, earlier, finished, joined, blake2s}

-- One block more, as a loop over the blocks behind the first k has it.
pub block_more : (message v made : List ℕ) (blocks : List (List ℕ)) (k n i j count : ℕ) → blocks ≡ first_chunks 64 n (drop (64 * k) message) → i < n → j ≡ k + i → v ≡ after message j → count ≡ 64 * (j + 1) → made ≡ F v (get_or blocks i []) count false → made ≡ after message (j + 1)
unfolding after
block_more message v made blocks k n i j count are within here before counted is =
    let place : 64 * k + 64 * i ≡ 64 * j = omega arith in
    is ∙ ap (λ (u : List ℕ). F u (get_or blocks i []) count false) before ∙
    ap (λ (bs : List (List ℕ)). F (after message j) (get_or bs i []) count false) are ∙
    ap (λ (b : List ℕ). F (after message j) b count false)
    (get_or_chunked 64 n (drop (64 * k) message) i within ∙ ap (take 64) (drop-drop (64 * i) (64 * k) message) ∙
    ap (λ (p : ℕ). take 64 (drop p message)) place) ∙
    ap (λ (c : ℕ). F (after message j) (block_of message j) c false) counted ∙ ap (after message) (sym (add-one j))

-- A block of zeros with the rest written in front.
pub filled_is : (rest front : List ℕ) (k : ℕ) → front ≡ rest → k ≡ length rest → front ++ drop k (replicate 64 0) ≡ filled rest
filled_is rest front k same is =
    ap (λ (xs : List ℕ). xs ++ drop k (replicate 64 0)) same ∙
    ap (λ (xs : List ℕ). rest ++ xs) (drop-replicate k 64 0 ∙ ap (λ (m : ℕ). replicate (64 - m) 0) is)

-- A whole block is filled already.
pub full_is : (rest : List ℕ) → length rest ≡ 64 → rest ≡ filled rest
full_is rest long =
    let none : 64 - length rest ≡ 0 = omega arith in
    sym (ap (λ (m : ℕ). rest ++ replicate m 0) none ∙ append-nil rest)

-- A message by its blocks before the last, then by what is left of it.
pub whole_message : (message rest before last : List ℕ) → rest ≡ drop (64 * earlier message) message → before ≡ after message (earlier message) → last ≡ F before (filled rest) (length message) true → joined last ≡ blake2s message
unfolding blake2s finished
whole_message message rest before last rest-is before-is last-is =
    let k = earlier message in
    let few : length (drop (64 * k) message) ≤ 64 = omega (arith, length-drop (64 * k) message) in
    let block-is : rest ≡ block_of message k = rest-is ∙ sym (take_all 64 (drop (64 * k) message) few) in
    ap joined
    (last-is ∙ ap (λ (u : List ℕ). F u (filled rest) (length message) true) before-is ∙
    ap (λ (b : List ℕ). F (after message k) (filled b) (length message) true) block-is)

pub after_none : (message : List ℕ) → first_state ≡ after message 0
unfolding after
after_none message = refl
