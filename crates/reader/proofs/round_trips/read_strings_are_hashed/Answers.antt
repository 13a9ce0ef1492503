use Rattle.reader.proofs.HashedStrings.{read_strings_are_hashed_lem}
use Rattle.reader.proofs.round_trips.read_strings_are_hashed.Goals as goal

pub returns : goal.returns
returns c = read_strings_are_hashed_lem
