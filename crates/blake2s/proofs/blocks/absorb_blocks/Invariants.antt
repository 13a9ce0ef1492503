use Rattle.std.proofs.Common.{◌≡◌, ℕ, ◌+◌, ◌*◌, List, length, drop}
use Rattle.std.specs.Simd.{first_chunks}
use Rattle.blake2s.specs.Standard.{after}
use Rattle.blake2s.proofs.blocks.absorb_blocks.Given as goal

abbrev pub invariant-loop-block : goal.invariant-loop-block
invariant-loop-block l =
    (l.count ≡ l.initial.count + 64 * l.block-index) ×
    ((message : List ℕ) (k : ℕ) → l.initial.count ≡ 64 * k → l.initial.h ≡ after message k → l.blocks ≡ first_chunks 64 (length l.blocks) (drop (64 * k) message) → l.h ≡ after message (k + l.block-index))
