-- Two registers with the same members hold the same list.
use Rattle.records.specs.Held.{is_before}
use Rattle.records.proofs.Holdable.{holdable_rising, before_apart}
use Rattle.slices.proofs.Uniqueness.{same_from_members}
use Rattle.search.specs.Judging.{Judging}
use Rattle.search.specs.Drawing.{Drawing}
use Rattle.search.specs.Laws.{Laws, SameMembersSameList}

pub same_list : {R Q : Type 0} (judging : Judging Q) (drawing : Drawing R Q) → Laws judging drawing → SameMembersSameList drawing
same_list judging drawing laws held other h k there back =
    same_from_members (is_before drawing.number_of) (before_apart drawing.number_of) held other
    (holdable_rising drawing.number_of drawing.add_refusal laws.adds_new_numbers held h)
    (holdable_rising drawing.number_of drawing.add_refusal laws.adds_new_numbers other k)
    there back
