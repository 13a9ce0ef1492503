use Rattle.std.proofs.Common.{◌≡◌, ◌-◌, [], ◌∷◌, length, take, Ok, Err, sym, ap, ◌∙◌, subst}
use Rattle.std.proofs.lemmas.Result.{err_from_is_err_and}
use Rattle.reader.specs.Reading.{map_ok}
use Rattle.calls.specs.Proving.{all_bytes}
use Rattle.calls.specs.Sheets.{nodes_of, stored_digests}
use Rattle.slices.specs.Stacks.{contents}
use Rattle.mirror.specs.Steps.{summed}
use Rattle.calls.proofs.Chains.{ok_same, not_ok}
use Rattle.mirror.proofs.Popping.{none_left, taken}
use Rattle.mirror.proofs.Written.{ends, goes_on_lem, none_so_far, turned_off}
use Rattle.mirror.proofs.proving.write_strings.Goals as goal

pub loop-place-init : goal.loop-place-init
loop-place-init g c =
    let asked = c.args.asked.now in
    none_so_far g.C.Chart.judging asked.question.now (nodes_of g.C.Chart.judging asked.counted.now) (stored_digests asked.counted.now) ((length asked.counted.now - 1) ∷ []) (contents c.at_root-waiting.result.stack) c.args.buffer.now (length c.args.buffer.now) c.at_root-waiting.ensures

pub loop-place-preserved : goal.loop-place-preserved
loop-place-preserved g c =
    let asked = c.args.asked.now in
    let top = taken (contents c.loop-place.waiting.stack) (contents c.pop.new.self.stack) c.in-Some.place c.in-Some.ensures.answer c.in-Some.ensures.after in
    (goes_on_lem g.C.Chart.judging asked.question.now (nodes_of g.C.Chart.judging asked.counted.now) (stored_digests asked.counted.now) ((length asked.counted.now - 1) ∷ [])
    (length c.args.buffer.now) c.in-Some.place (contents c.loop-place.waiting.stack) (contents c.pop.new.self.stack) (contents c.take_node.new.waiting.stack) c.loop-place.buffer c.take_node.new.buffer
    c.loop-place.proved.strings c.loop-place.proved.bytes c.in_ok-proved.field-0
    c.loop-place.invariant top c.loop-place.auto.buffer c.in_ok-proved.ensures.answer c.in_ok-proved.ensures.leaves).so_far

pub returns : goal.returns
returns g c =
    let asked = c.args.asked.now in
    let inv = c.loop-place.invariant in
    let top = none_left (contents c.loop-place.waiting.stack) c.in_default.ensures.answer in
    let whole = ends g.C.Chart.judging asked.question.now (nodes_of g.C.Chart.judging asked.counted.now) (stored_digests asked.counted.now) ((length asked.counted.now - 1) ∷ [])
    (length c.args.buffer.now) (contents c.loop-place.waiting.stack) c.loop-place.buffer c.loop-place.proved.strings c.loop-place.proved.bytes inv top in
    record {
      answer = ap Ok (λ i. record { strings = inv.counted i; bytes = inv.summed i }) ∙ sym (ap (map_ok summed) whole);
      stands = λ strings is.
          let same = ok_same inv.done strings (sym whole ∙ is) in
          subst (λ s. take (length (all_bytes s)) c.loop-place.buffer ≡ all_bytes s) same
          (subst (λ n. take n c.loop-place.buffer ≡ all_bytes inv.done) inv.summed inv.stands);
    }

pub returns-in_err-proved : goal.returns-in_err-proved
returns-in_err-proved g c =
    let asked = c.args.asked.now in
    let top = taken (contents c.loop-place.waiting.stack) (contents c.pop.new.self.stack) c.in-Some.place c.in-Some.ensures.answer c.in-Some.ensures.after in
    let e = c.in_err-proved.field-0.0 in
    let q = err_from_is_err_and c.from_residual.result c.from_residual.ensures.1 in
    let whole = turned_off g.C.Chart.judging asked.question.now (nodes_of g.C.Chart.judging asked.counted.now) (stored_digests asked.counted.now) ((length asked.counted.now - 1) ∷ [])
    (length c.args.buffer.now) c.in-Some.place (contents c.loop-place.waiting.stack) (contents c.pop.new.self.stack) c.loop-place.buffer
    c.loop-place.proved.strings c.loop-place.proved.bytes e
    c.loop-place.invariant top c.loop-place.auto.buffer c.in_err-proved.ensures.answer in
    record {
      answer = q.1 ∙ ap Err q.2 ∙ sym (ap (map_ok summed) whole);
      stands = λ strings is. absurd (not_ok e strings (sym whole ∙ is));
    }
