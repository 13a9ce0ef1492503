use Rattle.std.proofs.Common.{◌≡◌, length, sym, ap, ◌∙◌, rules}
use Rattle.calls.specs.Sheets.{all_before}
use Rattle.sheets.proofs.Soundness.{is_read}
use Rattle.sheets.proofs.reading.sound_record.Goals as goal

pub returns-clause-read : goal.returns-clause-read
returns-clause-read g c =
    let judging = g.C.Chart.judging in
    let shown = c.args.shown.now in
    let four : length shown.numbers ≡ 4 = search rules in
    let three : length shown.successors ≡ 3 = search rules in
    let known = sym c.shape_of.ensures ∙ c.in_ok-ok_or.ensures.ok_part in
    let fit = ap (judging.is_fit shown.kind) (sym c.numbers.ensures) ∙ sym c.if-not-is_fit.ensures in
    let before = ap (all_before c.args.place) (sym c.successors.ensures) ∙ sym c.if-not-all_before.ensures in
    is_read judging c.args.place shown c.in_ok-ok_or.field-0 known g.met.C.Chart.lawful.judges_well four three fit before
