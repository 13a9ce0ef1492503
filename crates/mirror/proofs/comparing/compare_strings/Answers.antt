use Rattle.std.proofs.Common.{◌-◌, Break, [], ◌∷◌, length, Ok, Err, sym, ap, ◌∙◌}
use Rattle.std.proofs.lemmas.Result.{err_from_is_err_and}
use Rattle.calls.specs.Sheets.{nodes_of, stored_digests}
use Rattle.slices.specs.Stacks.{contents}
use Rattle.mirror.proofs.Compared.{answers, differing, ends, goes_on_lem, left_over, none_left_over, nothing_so_far, refusing}
use Rattle.mirror.proofs.Popping.{none_left, taken}
use Rattle.mirror.proofs.comparing.compare_strings.Goals as goal

pub loop-place-init : goal.loop-place-init
loop-place-init g c =
    let asked = c.args.asked.now in
    nothing_so_far g.C.Chart.judging g.H.Hash.digest asked.question.now (nodes_of g.C.Chart.judging asked.counted.now) (stored_digests asked.counted.now) ((length asked.counted.now - 1) ∷ []) c.args.proof.now (contents c.at_root-waiting.result.stack) c.at_root-waiting.ensures

pub loop-place-preserved : goal.loop-place-preserved
loop-place-preserved g c =
    let asked = c.args.asked.now in
    let top = taken (contents c.loop-place.waiting.stack) (contents c.pop.new.self.stack) c.in-Some.place c.in-Some.ensures.answer c.in-Some.ensures.after in
    let on = ap Ok (sym c.in-Continue.is) in
    (goes_on_lem g.C.Chart.judging g.H.Hash.digest asked.question.now (nodes_of g.C.Chart.judging asked.counted.now) (stored_digests asked.counted.now) ((length asked.counted.now - 1) ∷ []) c.args.proof.now
    c.in-Some.place (contents c.loop-place.waiting.stack) (contents c.pop.new.self.stack) (contents c.compare_node.new.waiting.stack) c.loop-place.at c.in-Continue.end
    c.loop-place.invariant top (sym (on ∙ c.in_ok-end.ensures.answer)) (λ node sound. c.in_ok-end.ensures.waits node c.in-Continue.end (sym on) sound)).so_far

pub returns-in-Break : goal.returns-in-Break
returns-in-Break g c =
    let asked = c.args.asked.now in
    let top = taken (contents c.loop-place.waiting.stack) (contents c.pop.new.self.stack) c.in-Some.place c.in-Some.ensures.answer c.in-Some.ensures.after in
    answers g.C.Chart.judging g.H.Hash.digest asked.question.now (nodes_of g.C.Chart.judging asked.counted.now) (stored_digests asked.counted.now) ((length asked.counted.now - 1) ∷ []) c.args.proof.now
    c.in-Some.place (contents c.loop-place.waiting.stack) (contents c.pop.new.self.stack) c.loop-place.at (Ok (Break c.in-Break.comparison)) (Ok c.in-Break.comparison)
    c.loop-place.invariant top (ap Ok (sym c.in-Break.is) ∙ c.in_ok-end.ensures.answer) (differing c.in-Break.comparison)

pub returns-in_err-end : goal.returns-in_err-end
returns-in_err-end g c =
    let asked = c.args.asked.now in
    let top = taken (contents c.loop-place.waiting.stack) (contents c.pop.new.self.stack) c.in-Some.place c.in-Some.ensures.answer c.in-Some.ensures.after in
    let e = c.in_err-end.field-0.0 in
    let q = err_from_is_err_and c.from_residual.result c.from_residual.ensures.1 in
    q.1 ∙ ap Err q.2
    ∙ answers g.C.Chart.judging g.H.Hash.digest asked.question.now (nodes_of g.C.Chart.judging asked.counted.now) (stored_digests asked.counted.now) ((length asked.counted.now - 1) ∷ []) c.args.proof.now
    c.in-Some.place (contents c.loop-place.waiting.stack) (contents c.pop.new.self.stack) c.loop-place.at (Err e) (Err e)
    c.loop-place.invariant top c.in_err-end.ensures.answer (refusing e)

pub returns-then-at-proof : goal.returns-then-at-proof
returns-then-at-proof g c =
    let asked = c.args.asked.now in
    let top = none_left (contents c.loop-place.waiting.stack) c.in_default.ensures.answer in
    ap Ok (left_over g.C.Chart.judging asked.counted.now c.args.proof.now c.loop-place.at c.if-at-proof.true)
    ∙ sym (ends g.C.Chart.judging g.H.Hash.digest asked.question.now (nodes_of g.C.Chart.judging asked.counted.now) (stored_digests asked.counted.now) ((length asked.counted.now - 1) ∷ []) c.args.proof.now
    (contents c.loop-place.waiting.stack) c.loop-place.at c.loop-place.invariant top)

pub returns : goal.returns
returns g c =
    let asked = c.args.asked.now in
    let top = none_left (contents c.loop-place.waiting.stack) c.in_default.ensures.answer in
    ap Ok (none_left_over g.C.Chart.judging asked.counted.now c.args.proof.now c.loop-place.at c.if-at-proof.false)
    ∙ sym (ends g.C.Chart.judging g.H.Hash.digest asked.question.now (nodes_of g.C.Chart.judging asked.counted.now) (stored_digests asked.counted.now) ((length asked.counted.now - 1) ∷ []) c.args.proof.now
    (contents c.loop-place.waiting.stack) c.loop-place.at c.loop-place.invariant top)
