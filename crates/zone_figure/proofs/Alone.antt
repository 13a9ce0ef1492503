-- Judging names one way at most, so that a walk never has more than one node waiting.
-- Assumes nothing.
use Rattle.std.proofs.Common.{ℕ, suc, ◌≤◌, List, [], ◌∷◌, length, ℤ, Some, None, Option, arith}
use Rattle.std.specs.List.{slice_get}
use Rattle.std.proofs.lemmas.List.{length-append}
use Rattle.records.specs.declared.raw.Point.{Point}
use Rattle.node.specs.declared.kind.Kind.{Kind}
use Rattle.node.specs.declared.kind.Kind.TheVariants.{Empty, Split, Edge, Zone, XSpan, YSpan, Site}
use Rattle.node.specs.Kinds.{kind_numbered}
use Rattle.search.specs.Node.{Node}
use Rattle.search.specs.Judging.{nothing}
use Rattle.search.specs.Picks.{ahead, picks}
use Rattle.search.specs.Figure.{root_of}
use Rattle.search.specs.Walk.{Walk, ended, taken, judge_node, waiting_after}
use Rattle.zone_figure.specs.Judge.{by_kind, judge_split, judge_edge, judge_zone, zone_judging}
use Rattle.zone_figure.specs.Promises.{WalksWaitAlone}

one_way_by : (p : Point) (numbers : List ℤ) (kind : Option Kind) → length (by_kind kind (judge_split p numbers) (judge_edge p numbers) (judge_zone numbers) nothing).ways ≤ 1
one_way_by p numbers None = omega arith
one_way_by p numbers (Some Empty) = omega arith
one_way_by p numbers (Some Split) = omega arith
one_way_by p numbers (Some Edge) = omega arith
one_way_by p numbers (Some Zone) = omega arith
one_way_by p numbers (Some XSpan) = omega arith
one_way_by p numbers (Some YSpan) = omega arith
one_way_by p numbers (Some Site) = omega arith

ahead_length : {X : Type 0} (o : Option X) (xs : List X) → length (ahead o xs) ≤ suc (length xs)
ahead_length None xs = omega arith
ahead_length (Some x) xs = omega arith

picks_length : {X : Type 0} (xs : List X) (places : List ℕ) → length (picks xs places) ≤ length places
picks_length xs [] = omega arith
picks_length xs (place ∷ places) = omega (arith, picks_length xs places, ahead_length (slice_get xs place) (picks xs places))

alone_after : (p : Point) (node : Node) (waiting : List ℕ) → length waiting ≤ 0 → length (waiting_after zone_judging p node waiting) ≤ 1
alone_after p node waiting few =
    let ways = (judge_node zone_judging p node).ways in
    omega (arith, length-append (picks node.successors ways) waiting, picks_length node.successors ways, one_way_by p node.numbers (kind_numbered node.kind))

alone : (p : Point) (limit : ℕ) (figure : List Node) {waiting : List ℕ} {visited : List Node} {emitted : List ℕ} → length waiting ≤ 1
    → Walk zone_judging p limit figure waiting visited emitted → Walk zone_judging p 1 figure waiting visited emitted
alone p limit figure few ended = ended
alone p limit figure few (taken {waiting = waiting} {node = node} at room walk) =
    let short = alone_after p node waiting (omega arith) in
    taken at short (alone p limit figure short walk)

pub walks_wait_alone : WalksWaitAlone
walks_wait_alone limit figure p visited emitted walk = alone p limit figure {waiting = root_of figure ∷ []} (omega arith) walk
