use Rattle.std.proofs.Common.{sym}
use Rattle.slices.proofs.Stacking.{entries_length}
use Rattle.slices.proofs.stack.Stack.len.Goals as goal

pub returns : goal.returns
returns g c = sym (entries_length c.args.self.now.places.now c.args.self.now.len c.args.self.now.within)
