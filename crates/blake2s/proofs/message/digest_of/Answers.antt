use Rattle.std.proofs.Common.{◌≡◌, ℕ, ◌+◌, ◌*◌, ◌/◌, length, take, drop, sym, refl, ap, ◌∙◌, arith}
use Rattle.std.specs.Simd.{first_chunks}
use Rattle.digest.proofs.Chunks.{chunked_take}
use Rattle.blake2s.specs.Standard.{after, earlier}
use Rattle.blake2s.proofs.BlockSteps.{whole_message, after_none}
use Rattle.blake2s.proofs.message.digest_of.Goals as goal

pub returns : goal.returns
returns c =
    let message = c.args.message.now in
    let k = earlier message in
    let cut : 64 * c.blocks_before_last.result ≡ 64 * k = ap (λ (j : ℕ). 64 * j) c.blocks_before_last.ensures in
    let many : length c.as_chunks.result.0.now ≡ k =
    c.as_chunks.ensures.front_len ∙ ap (λ (j : ℕ). j / 64) (c.split_at.ensures.front_len ∙ cut) ∙ (omega arith) in
    let are : c.as_chunks.result.0.now ≡ first_chunks 64 k message =
    c.as_chunks.ensures.front ∙
    ap (λ (j : ℕ). first_chunks 64 j c.split_at.result.0.now) (sym c.as_chunks.ensures.front_len ∙ many) ∙
    ap (first_chunks 64 k) (c.split_at.ensures.front ∙ ap (λ (j : ℕ). take j message) cut) ∙ chunked_take 64 k message in
    let all : 0 + k ≡ k = omega arith in
    c.bytes_of.ensures ∙
    whole_message message c.split_at.result.1.now c.absorb_blocks.new.h c.absorb_last.new.h
    (c.split_at.ensures.back ∙ ap (λ (j : ℕ). drop j message) cut)
    (c.absorb_blocks.ensures message 0 refl (c.first_state-words.ensures ∙ after_none message)
    (are ∙ ap (λ (j : ℕ). first_chunks 64 j message) (sym many)) ∙ ap (λ (j : ℕ). after message (0 + j)) many ∙ ap (after message) all)
    c.absorb_last.ensures
