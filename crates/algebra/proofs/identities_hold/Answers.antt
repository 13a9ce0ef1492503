use Rattle.algebra.proofs.identities_hold.Goals as goal
use Rattle.algebra.proofs.Identity.{identities_hold_lem}

pub returns : goal.returns
returns c = identities_hold_lem
