use Rattle.algebra.proofs.certificates_hold.Goals as goal
use Rattle.algebra.proofs.Sign.{certificates_hold_lem}

pub returns : goal.returns
returns c = certificates_hold_lem
