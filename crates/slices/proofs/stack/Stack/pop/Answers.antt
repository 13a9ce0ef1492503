use Rattle.std.proofs.Common.{sym, refl, ap, arith}
use Rattle.slices.specs.Stacks.{first, others}
use Rattle.slices.proofs.Stacking.{entries_popped}
use Rattle.slices.proofs.stack.Stack.pop.Goals as goal

pub returns : goal.returns
returns g c =
    let s = c.args.self.now in
    let top = entries_popped s.places.now s.len c.index-self-self.result (omega arith) s.within in
    record { answer = sym (ap first top); after = sym (ap others top); lent = refl; same = refl }
