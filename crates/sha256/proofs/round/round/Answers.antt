use Rattle.sha256.specs.Compression.{step}
use Rattle.sha256.proofs.round.round.Goals as goal

pub returns : goal.returns
unfolding step
returns c =
    simp (c.large_sigma_1.ensures, c.choose.ensures, c.large_sigma_0.ensures, c.majority.ensures)
