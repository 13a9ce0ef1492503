use Rattle.std.proofs.Common.{◌≡◌, ℕ, ◌+◌, ◌*◌, ◌/◌, ◌<◌, List, [], length, get_or, ap, ◌∙◌, add-zero, lit<, arith}
use Rattle.digest.proofs.Chunks.{byte_of_word}
use Rattle.blake2s.proofs.rounds.word.Goals as goal

pub returns : goal.returns
returns c =
    let block = c.args.block.now in
    let i = c.args.i in
    let words = c.as_chunks.result.0.now in
    let n = length c.args.block.now / 4 in
    let within : i < length c.args.block.now / 4 = omega arith in
    let byte : (k : ℕ) → k < 4 → get_or (get_or words i []) k 0 ≡ get_or block (4 * i + k) 0 =
    λ k small. ap (λ (ws : List (List ℕ)). get_or (get_or ws i []) k 0) c.as_chunks.ensures.front ∙ byte_of_word n block i k within small in
    let first : get_or (get_or words i []) 0 0 ≡ get_or block (4 * i) 0 =
    byte 0 (lit< tt) ∙ ap (λ (k : ℕ). get_or block k 0) (add-zero (4 * i)) in
    c.from_le_bytes.ensures ∙ simp (first, byte 1 (lit< tt), byte 2 (lit< tt), byte 3 (lit< tt))
