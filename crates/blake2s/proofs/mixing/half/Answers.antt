use Rattle.blake2s.specs.Mixing.{half}
use Rattle.blake2s.proofs.mixing.half.Goals as goal

pub returns : goal.returns
unfolding half
returns g c = simp (c.rotate_right.ensures, c.rotate_right-2.ensures)
