use Rattle.std.proofs.Common.{◌≡◌, ◌+◌, ◌*◌, length, refl, ap, ◌∙◌, arith}
use Rattle.blake2s.specs.Standard.{after}
use Rattle.blake2s.proofs.BlockSteps.{block_more}
use Rattle.blake2s.proofs.blocks.absorb_blocks.Goals as goal

pub loop-block-init : goal.loop-block-init
loop-block-init c = (
  omega arith,
  λ message k starts before are.
      let here : k ≡ k + 0 = omega arith in
      before ∙ ap (after message) here,
)

pub loop-block-preserved : goal.loop-block-preserved
loop-block-preserved c =
    let i = c.loop-block.block-index in
    let count = c.loop-block.count + 64 in
    let counts : c.loop-block.count + 64 ≡ c.args.taken + 64 * (i + 1) = omega (arith, c.loop-block.invariant.0) in (
      counts,
      λ message k starts before are.
          let counted : c.loop-block.count + 64 ≡ 64 * (k + i + 1) = omega (arith, counts, starts) in
          let here : k + i + 1 ≡ k + (i + 1) = omega arith in
          block_more message c.loop-block.h c.absorb.new.h c.args.blocks.now k
          (length c.args.blocks.now) i (k + i) (c.loop-block.count + 64) are c.loop-block-test.true refl
          (c.loop-block.invariant.1 message k starts before are) counted c.absorb.ensures ∙
          ap (after message) here,
    )

pub returns : goal.returns
returns c =
    λ message k starts before are.
    let all : k + c.loop-block.block-index ≡ k + length c.args.blocks.now = omega arith in
    c.loop-block.invariant.1 message k starts before are ∙ ap (after message) all
