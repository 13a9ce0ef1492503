use Rattle.std.proofs.Common.{◌∙◌}
use Rattle.script.proofs.Growing.{grown_then}
use Rattle.script.proofs.Sentences.{begun_parts}
use Rattle.script.proofs.write.append_begun.Goals as goal

pub returns : goal.returns
returns c =
    grown_then
    (begun_parts c.args.kind c.args.hash c.as_bytes.result.now c.as_bytes-2.result.now (c.as_bytes.ensures.value ∙ c.kind_name.ensures) (c.as_bytes-2.ensures.value ∙ c.hash_name.ensures))
    c.in_ok-append_pair.ensures c.append_pair-2.ensures
