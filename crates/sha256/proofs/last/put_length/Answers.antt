use Rattle.std.proofs.Common.{◌∙◌}
use Rattle.sha256.specs.Standard.{eight_bytes}
use Rattle.sha256.proofs.PaddedEnd.{put_end}
use Rattle.sha256.proofs.last.put_length.Goals as goal

pub returns : goal.returns
returns c =
    put_end c.args.block.now c.copy_from_slice.new.self (eight_bytes c.args.bits) c.told-block
    (c.copy_from_slice.ensures.after ∙ c.to_be_bytes.ensures)
