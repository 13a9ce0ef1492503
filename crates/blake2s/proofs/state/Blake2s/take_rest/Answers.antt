use Rattle.std.proofs.Common.{◌≡◌, ℕ, ◌+◌, ◌-◌, ◌*◌, ◌/◌, List, ◌++◌, length, take, drop, sym, refl, ap, ◌∙◌, arith}
use Rattle.std.specs.Simd.{first_chunks}
use Rattle.digest.proofs.Chunks.{chunked_take}
use Rattle.blake2s.specs.Standard.{after}
use Rattle.blake2s.proofs.TakenParts.{rest_more}
use Rattle.blake2s.proofs.state.Blake2s.take_rest.Goals as goal

pub returns : goal.returns
returns c =
    let rest = c.args.rest.now in
    let j = (length rest - 1) / 64 in
    let blocks = c.as_chunks.result.0.now in
    let tail = c.split_at.result.1.now in
    let cut : 64 * c.blocks_before_last.result ≡ 64 * j = ap (λ (i : ℕ). 64 * i) c.blocks_before_last.ensures in
    let many : length blocks ≡ j =
    c.as_chunks.ensures.front_len ∙ ap (λ (i : ℕ). i / 64) (c.split_at.ensures.front_len ∙ cut) ∙ (omega arith) in
    let are : blocks ≡ first_chunks 64 j rest =
    c.as_chunks.ensures.front ∙
    ap (λ (i : ℕ). first_chunks 64 i c.split_at.result.0.now) (sym c.as_chunks.ensures.front_len ∙ many) ∙
    ap (first_chunks 64 j) (c.split_at.ensures.front ∙ ap (λ (i : ℕ). take i rest) cut) ∙ chunked_take 64 j rest in
    λ bytes before.
    rest_more c.args.self.now _ bytes rest tail _ before (omega (arith, c.requires.1.0))
    (λ message k counted begun rest-is.
    c.absorb_blocks.ensures message k (c.from-taken.ensures ∙ counted) begun
    (are ∙ ap (λ (i : ℕ). first_chunks 64 i rest) (sym many) ∙ ap (first_chunks 64 (length blocks)) rest-is) ∙
    ap (λ (i : ℕ). after message (k + i)) many)
    (c.split_at.ensures.back ∙ ap (λ (i : ℕ). drop i rest) cut)
    (ap (λ (xs : List ℕ). xs ++ drop (length tail - 0) c.args.self.now.pending) c.copy_from_slice.ensures.after) refl
