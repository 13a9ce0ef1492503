use Rattle.std.proofs.Common.{◌+◌, refl, drop, sym, ap, arith}
use Rattle.std.proofs.lemmas.List.{take_all}
use Rattle.std.specs.List.{flat_map}
use Rattle.script.specs.Lines.{after_space}
use Rattle.script.proofs.Growing.{grown_none, grown_then, grown_stop, grown_at}
use Rattle.script.proofs.Fields.{joined_take, joined_split}
use Rattle.script.proofs.append.append_fields.Goals as goal

pub loop-number-init : goal.loop-number-init
loop-number-init g c = grown_none c.args.out.now tt

pub returns-in_err-append_field : goal.returns-in_err-append_field
returns-in_err-append_field g c =
    let f = λ (n : _). after_space (g.I.Integer.text n) in
    let i = c.loop-number.number-index in
    let numbers = c.args.numbers.now in
    grown_stop c.from_residual.ensures.0 (flat_map f (drop (i + 1) numbers)) (joined_split f numbers i c.number-item.result (omega arith))
    (grown_then refl c.loop-number.invariant (grown_at (ap f (sym c.number-item.is)) c.in_err-append_field.ensures))

pub loop-number-preserved : goal.loop-number-preserved
loop-number-preserved g c =
    grown_then (joined_take (λ n. after_space (g.I.Integer.text n)) c.args.numbers.now c.loop-number.number-index c.number-item.result (omega arith)) c.loop-number.invariant (grown_at (ap (λ n. after_space (g.I.Integer.text n)) (sym c.number-item.is)) c.in_ok-append_field.ensures)

pub returns : goal.returns
returns g c = grown_at (ap (flat_map (λ n. after_space (g.I.Integer.text n))) (sym (take_all c.loop-number.number-index c.args.numbers.now (omega arith)))) c.loop-number.invariant
