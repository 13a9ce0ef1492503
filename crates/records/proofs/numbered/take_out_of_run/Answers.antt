use Rattle.std.proofs.Common.{is_some, Some, None, sym, refl, ap, ◌∙◌, w64}
use Rattle.slices.specs.Runs.{elements}
use Rattle.records.specs.Held.{place_from, remove_refusal, taken_out}
use Rattle.records.proofs.Held.{holds_found}
use Rattle.records.proofs.Numbers.{from_bits}
use Rattle.records.proofs.Outcome.{outcome, not_held, is_held}
use Rattle.records.proofs.Taking.{not_refused, taking_leaves}
use Rattle.records.proofs.numbered.take_out_of_run.Goals as goal

pub returns-in_default : goal.returns-in_default
returns-in_default g c =
    let f = g.T.Numbered.number_of in
    let n = c.args.number in
    let kept = elements c.args.kept.now in
    let place = from_bits w64 (λ m. place_from 0 f m c.as_slice.result.now) None n c.ranges.number c.in_default.ensures ∙ ap (place_from 0 f n) c.as_slice.ensures.elements in
    let refused = not_held f kept n (holds_found f n 0 kept ∙ ap is_some (sym place)) in
    let both = outcome (remove_refusal f kept n) _ (tt {0}) kept (taken_out f n kept) kept refused refl in
    record { answer = both.answer; after = both.left }

pub unreachable-requires : goal.unreachable-requires
unreachable-requires g c =
    let f = g.T.Numbered.number_of in
    let n = c.args.number in
    let kept = elements c.args.kept.now in
    let place = from_bits w64 (λ m. place_from 0 f m c.as_slice.result.now) (Some c.in-Some.at) n c.ranges.number c.in-Some.ensures ∙ ap (place_from 0 f n) c.as_slice.ensures.elements in
    not_refused f n kept c.in-Some.at (sym place) c.in-Err.field-0 c.in-Err.ensures.answer

pub returns : goal.returns
returns g c =
    let f = g.T.Numbered.number_of in
    let n = c.args.number in
    let kept = elements c.args.kept.now in
    let place = from_bits w64 (λ m. place_from 0 f m c.as_slice.result.now) (Some c.in-Some.at) n c.ranges.number c.in-Some.ensures ∙ ap (place_from 0 f n) c.as_slice.ensures.elements in
    let taken = is_held f kept n (holds_found f n 0 kept ∙ ap is_some (sym place)) in
    let both = outcome (remove_refusal f kept n) _ (tt {0}) _ (taken_out f n kept) kept taken (c.in-Ok.ensures.after ∙ taking_leaves f n kept c.in-Some.at (sym place)) in
    record { answer = both.answer; after = both.left }
