use Rattle.std.proofs.Common.{[], refl, ◌∙◌}
use Rattle.blake2s.proofs.BlockSteps.{after_none}
use Rattle.blake2s.proofs.parts.Blake2sHashInParts.new.Goals as goal

pub returns : goal.returns
returns c = record { counted = refl; absorbed = c.first_state.ensures ∙ after_none []; held = refl }
