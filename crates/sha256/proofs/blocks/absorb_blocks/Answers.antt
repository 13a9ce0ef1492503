use Rattle.std.proofs.Common.{◌≡◌, length, refl, ap, ◌∙◌, arith}
use Rattle.sha256.specs.Standard.{after}
use Rattle.sha256.proofs.BlockSteps.{block_more}
use Rattle.sha256.proofs.blocks.absorb_blocks.Goals as goal

pub loop-block-init : goal.loop-block-init
unfolding after
loop-block-init c = λ bytes are. refl

pub loop-block-preserved : goal.loop-block-preserved
loop-block-preserved c =
    λ bytes are.
    block_more c.args.h.now c.loop-block.h c.absorb.new.h bytes c.args.blocks.now
    (length c.args.blocks.now) c.loop-block.block-index are c.loop-block-test.true (c.loop-block.invariant bytes are) c.absorb.ensures

pub returns : goal.returns
returns c =
    λ bytes are.
    let end : c.loop-block.block-index ≡ length c.args.blocks.now = omega arith in
    c.loop-block.invariant bytes are ∙ ap (after c.args.h.now bytes) end
