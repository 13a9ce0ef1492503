use Rattle.std.proofs.Common.{◌-◌, length, replicate, arith}
use Rattle.std.proofs.lemmas.List.{drop-replicate}
use Rattle.sha256.proofs.PaddedEnd.{ended_is}
use Rattle.sha256.proofs.last.ended.Goals as goal

pub returns : goal.returns
returns c =
    let written = length c.args.rest.now - 0 in
    ended_is c.args.rest.now c.copy_from_slice.new.self (replicate 64 0) (length c.args.rest.now - 0)
    c.copy_from_slice.ensures.after (omega arith) c.requires (drop-replicate (length c.args.rest.now - 0) 64 0)
