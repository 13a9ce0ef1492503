use Rattle.reader.proofs.WritingBack.{read_is_written_back_lem}
use Rattle.reader.proofs.round_trips.read_is_written_back.Goals as goal

pub returns : goal.returns
returns c = read_is_written_back_lem
