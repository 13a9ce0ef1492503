-- The lines of a figure's records.
use Rattle.std.proofs.Common.{◌≡◌, ℕ, ◌+◌, ◌<◌, ◌≤◌, List, ◌++◌, length, get_or, take, drop, replicate, pos, sym, ap, ◌∙◌, add-one}
use Rattle.std.proofs.lemmas.List.{drop_more, take_at, take-take}
use Rattle.node.specs.Kinds.{kind_numbered, shape_of}
use Rattle.node.proofs.KindTable.{numbers_name_kinds_lem, shapes_are_small_lem}
use Rattle.script.specs.Lines.{ended}
use Rattle.search.specs.Sheet.{filled_to, record_of}
use Rattle.search.specs.declared.sheet.SheetRecord.{SheetRecord}
use Rattle.node_lines.specs.FigureLines.{RecordsShowTheirNodes, line_of_record, name_of, numbers_and_successors, of_kind, place_shown, record_lines}

pub record_step : (nodes : List SheetRecord) (i : ℕ) (d : SheetRecord) → i < length nodes → record_lines i (drop i nodes) ≡ ended (line_of_record i (get_or nodes i d)) ++ record_lines (i + 1) (drop (i + 1) nodes)
record_step nodes i d inside =
    ap (record_lines i) (drop_more nodes i d inside)
    ∙ ap (λ k. ended (line_of_record i (get_or nodes i d)) ++ record_lines k (drop (i + 1) nodes)) (sym (add-one i))

-- fields of a shape, filled up and cut again
refilled : {X : Type 0} (xs : List X) (filler : X) (n most : ℕ) → length xs ≡ n → n ≤ most → take n (filled_to most filler xs) ≡ xs
refilled xs filler n most long few =
    take-take n most (xs ++ replicate most filler) few ∙ take_at xs (replicate most filler) n long

pub records_show_their_nodes_lem : RecordsShowTheirNodes
records_show_their_nodes_lem place kind node of-kind numbers successors =
    let small = shapes_are_small_lem kind in
    ap (λ k. place_shown place ++ of_kind k (record_of node)) (ap kind_numbered of-kind ∙ numbers_name_kinds_lem kind)
    ∙ (ap (λ zs. place_shown place ++ (name_of kind ++ numbers_and_successors zs (take (shape_of kind).successors (filled_to 3 0 node.successors)))) (refilled node.numbers (pos 0) (shape_of kind).numbers 4 numbers small.0)
    ∙ ap (λ ps. place_shown place ++ (name_of kind ++ numbers_and_successors node.numbers ps)) (refilled node.successors 0 (shape_of kind).successors 3 successors small.1))
