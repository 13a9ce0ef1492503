use Rattle.algebra.proofs.integers_form_a_ring.Goals as goal
use Rattle.algebra.proofs.Ring.{integers_form_a_ring_lem}

pub returns : goal.returns
returns c = integers_form_a_ring_lem
