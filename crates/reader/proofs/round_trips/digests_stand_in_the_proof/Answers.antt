use Rattle.reader.proofs.DigestPlaces.{digests_stand_in_the_proof_lem}
use Rattle.reader.proofs.round_trips.digests_stand_in_the_proof.Goals as goal

pub returns : goal.returns
returns c = digests_stand_in_the_proof_lem
