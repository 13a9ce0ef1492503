use Rattle.std.proofs.Common.{length, refl}
use Rattle.sha256.proofs.TakenParts.{blocks_more}
use Rattle.sha256.proofs.state.Sha256.take_blocks.Goals as goal

pub returns : goal.returns
returns c =
    record {
      size = refl;
      taken =
          λ bytes more before enough are.
          blocks_more c.args.self.now _ bytes more (length c.args.blocks.now) before c.requires.0 enough
          (c.absorb_blocks.ensures more are) refl;
    }
