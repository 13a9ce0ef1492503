use Rattle.std.proofs.Common.{ℕ, ◌<◌, length, refl, subst, rules}
use Rattle.search.specs.Sheet.{usable}
use Rattle.search.proofs.Drafts.{place_small, newly_drawn}
use Rattle.search.proofs.drafting.Draft.draw.Goals as goal

pub overflow_cast-result : goal.overflow_cast-result
overflow_cast-result c =
    let draft = c.args.self.now in
    let small = place_small draft.sheet.now draft.len c.args.node c.drawn-drawn.result.now c.drawn-drawn.ensures c.in-Some.place c.in-Some.ensures in
    search rules

pub returns : goal.returns
returns c =
    let draft = c.args.self.now in
    let room : length c.drawn-drawn.result.now < usable draft.sheet.now = subst (λ (n : ℕ). length c.drawn-drawn.result.now < n) c.room-room.ensures c.if-run-room.false in
    let outcome = newly_drawn draft.sheet.now draft.len c.args.node c.drawn-drawn.result.now c.drawn-drawn.ensures c.in_default.ensures room in
    record { same_sheet = refl; answered = outcome.answered; leaves = outcome.leaves; counts = outcome.counts }
