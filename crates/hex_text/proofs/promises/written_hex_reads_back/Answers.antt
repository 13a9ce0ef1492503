use Rattle.hex_text.proofs.Written.{written_reads_back}
use Rattle.hex_text.proofs.promises.written_hex_reads_back.Goals as goal

pub returns : goal.returns
returns c = written_reads_back
