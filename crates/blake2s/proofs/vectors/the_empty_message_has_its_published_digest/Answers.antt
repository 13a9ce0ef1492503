use Rattle.std.proofs.Common.{refl}
use Rattle.blake2s.specs.Mixing.{half, G, chosen, columns, diagonals, rounds, started, folded, F}
use Rattle.blake2s.specs.Standard.{first_state, after, finished, blake2s}
use Rattle.blake2s.proofs.vectors.the_empty_message_has_its_published_digest.Goals as goal

pub returns : goal.returns
unfolding half G chosen columns diagonals rounds started folded F first_state after finished blake2s
returns c = refl
