use Rattle.std.proofs.Common.{◌++◌, codes, refl, ◌∙◌}
use Rattle.refusal.specs.Table as table
use Rattle.script.proofs.Growing.{grown_then, grown_stop}
use Rattle.script.proofs.Sentences.{refused_parts}
use Rattle.script.proofs.write.append_refused.Goals as goal

pub returns-in_err-append_words : goal.returns-in_err-append_words
returns-in_err-append_words c =
    grown_stop c.from_residual.ensures.0 (codes ": " ++ table.words_of c.args.refusal)
    (refused_parts c.args.refusal c.from.result (table.words_of c.args.refusal) c.from.ensures refl)
    c.in_err-append_words.ensures

pub returns : goal.returns
returns c =
    grown_then
    (refused_parts c.args.refusal c.from.result c.as_bytes.result.now c.from.ensures (c.as_bytes.ensures.value ∙ c.words.ensures))
    c.in_ok-append_words.ensures c.append_pair.ensures
