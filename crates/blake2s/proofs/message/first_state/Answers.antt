use Rattle.std.proofs.Common.{refl}
use Rattle.blake2s.specs.Standard.{first_state}
use Rattle.blake2s.proofs.message.first_state.Goals as goal

pub returns : goal.returns
unfolding first_state
returns c = refl
