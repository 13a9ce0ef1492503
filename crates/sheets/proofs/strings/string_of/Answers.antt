use Rattle.calls.specs.Sheets.{stored_digests}
use Rattle.search.specs.Honest.{string_in}
use Rattle.sheets.specs.Nodes.{node_of}
use Rattle.sheets.proofs.Writes.{read_back}
use Rattle.sheets.proofs.strings.string_of.Goals as goal

pub returns-clause-string : goal.returns-clause-string
returns-clause-string c =
    read_back c.args.room.now (string_in (stored_digests c.args.counted.now) (node_of c.args.node.now)) c.write_node.new.out c.in-Ok.end c.in-Ok.ensures.answer c.in-Ok.ensures.after
