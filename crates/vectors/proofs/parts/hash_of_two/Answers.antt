use Rattle.std.proofs.Common.{[], ◌++◌, Ok, Err, sym, ap, ◌∙◌, arith}
use Rattle.std.proofs.lemmas.List.{length-append}
use Rattle.std.proofs.lemmas.Result.{err_from_is_err_and}
use Rattle.digest.proofs.Offers.{refused, accepted, hashed_long, hashed_fits}
use Rattle.vectors.proofs.parts.hash_of_two.Goals as goal

pub returns-in_err-update : goal.returns-in_err-update
returns-in_err-update g c =
    let first = c.args.first.now in
    let second = c.args.second.now in
    let empty = g.met.H.HashInParts.counted c.new-state.result [] c.new-state.ensures in
    let no = refused _ _ (sym c.in_err-update.was ∙ c.update.ensures.answer) in
    let q = err_from_is_err_and c.from_residual.result c.from_residual.ensures.1 in
    q.1 ∙ ap Err (q.2 ∙ no.0) ∙
    sym (hashed_long g.H.Hash.digest (first ++ second) (omega (arith, empty, no.1, length-append first second)))

pub returns-in_err-update-2 : goal.returns-in_err-update-2
returns-in_err-update-2 g c =
    let first = c.args.first.now in
    let second = c.args.second.now in
    let fits = accepted _ (sym c.in_ok-update.was ∙ c.update.ensures.answer) in
    let taken = c.update.ensures.taken fits [] c.new-state.ensures in
    let counted = g.met.H.HashInParts.counted c.update.new.self first taken in
    let no = refused _ _ (sym c.in_err-update-2.was ∙ c.update-2.ensures.answer) in
    let q = err_from_is_err_and c.from_residual-in_err-update-2.result c.from_residual-in_err-update-2.ensures.1 in
    q.1 ∙ ap Err (q.2 ∙ no.0) ∙
    sym (hashed_long g.H.Hash.digest (first ++ second) (omega (arith, no.1, counted, length-append first second)))

pub returns : goal.returns
returns g c =
    let first = c.args.first.now in
    let second = c.args.second.now in
    let fits = accepted _ (sym c.in_ok-update.was ∙ c.update.ensures.answer) in
    let taken = c.update.ensures.taken fits [] c.new-state.ensures in
    let counted = g.met.H.HashInParts.counted c.update.new.self first taken in
    let more = accepted _ (sym c.in_ok-update-2.was ∙ c.update-2.ensures.answer) in
    let whole = c.update-2.ensures.taken more first taken in
    ap Ok (c.finish.ensures (first ++ second) whole) ∙
    sym (hashed_fits g.H.Hash.digest (first ++ second) (omega (arith, more, counted, length-append first second)))
