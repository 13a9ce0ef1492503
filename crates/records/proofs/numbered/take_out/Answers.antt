use Rattle.std.proofs.Common.{◌≡◌, ◌-◌, ◌≤◌, length, take, is_some, Some, None, Ok, sym, refl, ap, ◌∙◌, arith, w64}
use Rattle.records.specs.Held.{left_of, place_from, remove_refusal}
use Rattle.records.proofs.Held.{holds_found}
use Rattle.records.proofs.Numbers.{from_bits}
use Rattle.records.proofs.Outcome.{outcome, not_held, is_held}
use Rattle.records.proofs.TakingFromSlice.{run_is, run_length, found_within, taking_leaves}
use Rattle.records.proofs.numbered.take_out.Goals as goal

pub returns-in_default : goal.returns-in_default
returns-in_default g c =
    let f = g.T.Numbered.number_of in
    let n = c.args.number in
    let kept = c.args.kept.now in
    let run = take c.args.len kept in
    let place = from_bits w64 (λ m. place_from 0 f m (take c.min-run.result kept)) None n c.ranges.number c.in_default.ensures ∙ ap (place_from 0 f n) (run_is kept c.args.len _ c.min-run.ensures) in
    let refused = not_held f run n (holds_found f n 0 run ∙ ap is_some (sym place)) in
    let both = outcome (remove_refusal f run n) _ (length run - 1) kept (left_of f n c.args.len kept) kept refused refl in
    record { answer = both.answer; after = both.left }

pub unreachable-requires : goal.unreachable-requires
unreachable-requires g c =
    let f = g.T.Numbered.number_of in
    let n = c.args.number in
    let kept = c.args.kept.now in
    let place = from_bits w64 (λ m. place_from 0 f m (take c.min-run.result kept)) (Some c.in-Some.at) n c.ranges.number c.in-Some.ensures ∙ ap (place_from 0 f n) (run_is kept c.args.len _ c.min-run.ensures) in
    let inside = found_within f n kept c.args.len c.min-run.result c.in-Some.at c.min-run.ensures (sym place) in
    let run-within : c.min-run.result ≤ length kept = omega (arith, c.min-run.ensures) in
    omega (arith, inside, c.in-Err.ensures.place run-within)

pub returns : goal.returns
returns g c =
    let f = g.T.Numbered.number_of in
    let n = c.args.number in
    let kept = c.args.kept.now in
    let run = take c.args.len kept in
    let ends = c.min-run.ensures in
    let place = from_bits w64 (λ m. place_from 0 f m (take c.min-run.result kept)) (Some c.in-Some.at) n c.ranges.number c.in-Some.ensures ∙ ap (place_from 0 f n) (run_is kept c.args.len _ ends) in
    let taken = is_held f run n (holds_found f n 0 run ∙ ap is_some (sym place)) in
    let shorter : c.in-Ok.shorter ≡ length run - 1 = omega (arith, c.in-Ok.ensures.place.2, run_length kept c.args.len _ ends) in
    let after = c.in-Ok.ensures.after ∙ taking_leaves f n kept c.args.len c.min-run.result c.in-Some.at ends (sym place) in
    let both = outcome (remove_refusal f run n) _ (length run - 1) _ (left_of f n c.args.len kept) kept taken after in
    record { answer = ap Ok shorter ∙ both.answer; after = both.left }
