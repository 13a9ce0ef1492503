use Rattle.algebra.proofs.integers_are_ordered.Goals as goal
use Rattle.algebra.proofs.Order.{integers_are_ordered_lem}

pub returns : goal.returns
returns c = integers_are_ordered_lem
