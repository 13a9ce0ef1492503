use Rattle.std.proofs.Common.{refl}
use Rattle.node.proofs.Buffers.{put_part}
use Rattle.node.proofs.writing.put.Goals as goal

pub returns : goal.returns
returns c = record {
  answer = refl;
  after = put_part c.args.out.now c.args.at c.copy_from_slice.new.self c.args.bytes.now c.copy_from_slice.ensures.after;
}
