use Rattle.script.proofs.ReadAgain.{listed_edges_read_back, listed_sites_read_back}
use Rattle.script.proofs.promises.listed_records_read_back.Goals as goal

pub returns : goal.returns
returns c = record { edges = listed_edges_read_back; sites = listed_sites_read_back }
