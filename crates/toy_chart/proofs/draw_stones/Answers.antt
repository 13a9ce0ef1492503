use Rattle.std.proofs.Common.{[], ◌∷◌, pos}
use Rattle.search.proofs.Sequences.{passed_on}
use Rattle.search.proofs.Successors.{rose_alike, leaf_drawn, two_second, two_last}
use Rattle.toy_chart.proofs.Drawings.{nothing_here, stone_here, of_kind, leaf_of_kind, rose_of_stone}
use Rattle.toy_chart.proofs.draw_stones.Goals as goal

pub returns-in_err-some : goal.returns-in_err-some
returns-in_err-some c =
    let before = c.args.draft.now in
    let number = c.in-Some.number in
    let none = leaf_of_kind before c.draw.new.self _ 0 _ [] _ c.into.ensures c.of_node.ensures c.in_ok-none.ensures in
    let some = leaf_drawn c.draw.new.self c.draw-2.new.self _ 1 (pos number.value ∷ []) _ c.stone_record.ensures c.in_err-some.ensures in
    let told = two_second before 2 [] nothing_here (stone_here number) c.draw.new.self c.in_ok-none.none none _ _ some in
    passed_on _ _ _ _ c.from_residual-in_err-some.result c.from_residual-in_err-some.ensures.1 (rose_alike before _ _ _ _ (rose_of_stone c.args.stone number c.in-Some.is) told)

pub returns : goal.returns
returns c =
    let before = c.args.draft.now in
    let number = c.in-Some.number in
    let none = leaf_of_kind before c.draw.new.self _ 0 _ [] _ c.into.ensures c.of_node.ensures c.in_ok-none.ensures in
    let some = leaf_drawn c.draw.new.self c.draw-2.new.self _ 1 (pos number.value ∷ []) _ c.stone_record.ensures c.in_ok-some.ensures in
    let node = of_kind 2 _ [] (c.in_ok-none.none ∷ c.in_ok-some.some ∷ []) _ c.into-2.ensures c.of_node-2.ensures in
    let told = two_last before 2 [] nothing_here (stone_here number) c.draw.new.self c.in_ok-none.none none c.draw-2.new.self c.in_ok-some.some some c.of_node-2.result node _ _ c.draw-3.ensures in
    rose_alike before _ _ _ _ (rose_of_stone c.args.stone number c.in-Some.is) told
