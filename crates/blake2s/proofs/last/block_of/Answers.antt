use Rattle.std.proofs.Common.{◌-◌, length, arith}
use Rattle.blake2s.proofs.BlockSteps.{filled_is}
use Rattle.blake2s.proofs.last.block_of.Goals as goal

pub returns : goal.returns
returns c =
    filled_is c.args.rest.now c.copy_from_slice.new.self (length c.args.rest.now - 0)
    c.copy_from_slice.ensures.after (omega arith)
