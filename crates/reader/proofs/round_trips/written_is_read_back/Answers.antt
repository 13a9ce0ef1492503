use Rattle.reader.proofs.ReadingBack.{written_is_read_back_lem}
use Rattle.reader.proofs.round_trips.written_is_read_back.Goals as goal

pub returns : goal.returns
returns c = written_is_read_back_lem
