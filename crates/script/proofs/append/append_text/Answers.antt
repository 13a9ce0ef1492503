use Rattle.script.proofs.Growing.{grown_once}
use Rattle.script.proofs.append.append_text.Goals as goal

pub returns : goal.returns
returns c =
    grown_once c.args.out.now c.extend_from_slice.new.self c.args.text.now c.extend_from_slice.result c.args.out.now.ok.0 c.extend_from_slice.ensures.items c.extend_from_slice.ensures.full c.extend_from_slice.ensures.capacity
