use Rattle.sha256.specs.Compression.{expand}
use Rattle.sha256.proofs.schedule.expanded.Goals as goal

pub returns : goal.returns
unfolding expand
returns c = simp (c.small_sigma_1.ensures, c.small_sigma_0.ensures)
