use Rattle.std.proofs.Common.{ap, rules, arith}
use Rattle.std.proofs.lemmas.Grind.{common_steps}
use Rattle.reader.specs.Reading.{position_of}
use Rattle.reader.specs.Views.{seen_in}
use Rattle.node_lines.specs.StringLines.{line_of_fault}
use Rattle.node_lines.proofs.Turns.{lines_fault, lines_step, place_after_lem, some_left}
use Rattle.node_lines.proofs.string_lines.write_from.Goals as goal

pub loop-reader-preserved : goal.loop-reader-preserved
loop-reader-preserved c =
    let p = position_of c.loop-reader.reader in
    let q = position_of c.next_string.new.reader in
    let seen = seen_in c.in-Ok.view in
    let some = some_left p c.finish.result c.is_err.result c.finish.ensures c.is_err.ensures.value c.loop-reader-test.true in
    let answer = c.in-Ok.ensures.answer in
    let step = lines_step p q seen some answer (ap (λ x. x.now) c.next_string.ensures.bytes) (place_after_lem p seen q.at answer c.next_string.ensures.place) in
    grind (arith, common_steps)

pub returns-in-Err : goal.returns-in-Err
returns-in-Err c =
    let p = position_of c.loop-reader.reader in
    let some = some_left p c.finish.result c.is_err.result c.finish.ensures c.is_err.ensures.value c.loop-reader-test.true in
    let last = lines_fault p c.in-Err.fault some c.in-Err.ensures.answer in
    let line = c.write_line.ensures.line (line_of_fault c.place-place.result c.in-Err.fault) (λ r after left. search rules) in
    grind (arith, common_steps)
