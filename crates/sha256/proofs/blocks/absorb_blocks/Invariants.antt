use Rattle.std.proofs.Common.{◌≡◌, ℕ, List, length}
use Rattle.std.specs.Simd.{first_chunks}
use Rattle.sha256.specs.Standard.{after}
use Rattle.sha256.proofs.blocks.absorb_blocks.Given as goal

abbrev pub invariant-loop-block : goal.invariant-loop-block
invariant-loop-block l = (bytes : List ℕ) → l.blocks ≡ first_chunks 64 (length l.blocks) bytes → l.h ≡ after l.initial.h bytes l.block-index
