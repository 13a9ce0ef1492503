use Rattle.std.proofs.Common.{◌≡◌, ℕ, List, ◌++◌, length, take, drop, sym, ap, ◌∙◌, subst}
use Rattle.calls.specs.Publishing.{with_digests}
use Rattle.calls.specs.Sheets.{nodes_in}
use Rattle.search.specs.declared.sheet.SheetRecord.{SheetRecord}
use Rattle.search.specs.Figure.{IsFigure}
use Rattle.search.specs.Honest.{digests_of}
use Rattle.search.specs.Sheet.{drawn_sheet}
use Rattle.office.proofs.Drawn.{counted, drawn_figure, published}
use Rattle.office.proofs.publishing.publish.Goals as goal

pub store_digests-requires : goal.store_digests-requires
store_digests-requires g c =
    let judging = g.C.Chart.judging in
    let figure = g.C.Chart.drawing.figure (g.C.Chart.held c.args.register.now) in
    let sheet = c.args.sheet.now in
    let told = counted figure sheet c.in_ok-count.count c.in_ok-count.ensures.answer in
    let left : c.draw.new.sheet ≡ drawn_sheet figure sheet = c.in_ok-count.ensures.after in
    subst (λ (n : ℕ). IsFigure judging (nodes_in judging c.draw.new.sheet n)) (sym told.0)
    (subst (λ (t : List SheetRecord). IsFigure judging (nodes_in judging t (length figure))) (sym left) (drawn_figure figure sheet told.1 judging g.met.C.Chart.lawful.judges_well c.show_drawn.ensures))

pub returns-clause-after : goal.returns-clause-after
returns-clause-after g c =
    let judging = g.C.Chart.judging in
    let hash = g.H.Hash.digest in
    let figure = g.C.Chart.drawing.figure (g.C.Chart.held c.args.register.now) in
    let sheet = c.args.sheet.now in
    let told = counted figure sheet c.in_ok-count.count c.in_ok-count.ensures.answer in
    let left : c.draw.new.sheet ≡ drawn_sheet figure sheet = c.in_ok-count.ensures.after in
    ap (λ (t : List SheetRecord). t ++ drop c.in_ok-count.count c.draw.new.sheet) c.store_digests.ensures
    ∙ (λ i. with_digests (take (told.0 i) (left i)) (digests_of hash (nodes_in judging (left i) (told.0 i))) ++ drop (told.0 i) (left i))
    ∙ published figure sheet told.1 judging g.met.C.Chart.lawful.judges_well c.show_drawn.ensures hash
