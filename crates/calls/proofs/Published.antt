-- What a published sheet shows.
use Rattle.std.proofs.Common.{◌≡◌, ℕ, suc, ◌≤◌, ltb, leb, List, [], ◌∷◌, ◌++◌, map, length, take, drop, replicate, pos, Option, sym, refl, ap, ◌∙◌, subst, arith, length-append}
use Rattle.std.specs.Option.{option_map}
use Rattle.std.specs.List.{slice_get, AllByRecursion}
use Rattle.std.proofs.lemmas.List.{take-take, take_at, length-drop}
use Rattle.std.proofs.lemmas.Bool.{cond-true, le-leb, lt-ltb, and_from}
use Rattle.node.specs.declared.shape.Shape.{Shape}
use Rattle.search.specs.declared.sheet.SheetRecord.{SheetRecord}
use Rattle.search.specs.Node.{Node}
use Rattle.search.specs.Judging.{Judging}
use Rattle.search.specs.Figure.{Sound, IsFigure, root_of}
use Rattle.search.specs.Honest.{digests_of}
use Rattle.search.specs.Laws.{JudgesWell}
use Rattle.search.specs.Sheet.{filled_to, record_of, usable, drawn_sheet}
use Rattle.calls.specs.Sheets.{or_bare, node_in}
use Rattle.calls.specs.Publishing.{with_digest, with_digests, published_records}
use Rattle.calls.specs.Meaning.{ShowsFigure, PublishedSheetsShowTheirFigure}
use Rattle.calls.proofs.Digests.{length_digests}
use Rattle.calls.proofs.Picking.{nth_left, nth_map, all_from_nth}

-- what was filled is read back
unfilled : {X : Type 0} (n most : ℕ) (d : X) (xs : List X) → length xs ≡ n → n ≤ most → take n (filled_to most d xs) ≡ xs
unfilled n most d xs long h = take-take n most (xs ++ replicate most d) h ∙ take_at xs (replicate most d) n long

module _ {Q : Type 0} (judging : Judging Q) (well : JudgesWell judging) where
  -- sound somewhere
  abbrev IsSomewhere : Node → Type 0
  IsSomewhere n = (place : ℕ) × Sound judging place n

  node_shown : (n : Node) (digest : List ℕ) → IsSomewhere n → node_in judging (with_digest (record_of n) digest) ≡ n
  node_shown n digest (place, sound) =
      let known = sound.judgeable.known in
      let numbers = ap (λ (o : Option Shape). take (or_bare o).numbers (filled_to 4 (pos 0) n.numbers)) known ∙ unfilled sound.shape.numbers 4 (pos 0) n.numbers sound.judgeable.counted (well.few_numbers n.kind sound.shape known) in
      let successors = ap (λ (o : Option Shape). take (or_bare o).successors (filled_to 3 0 n.successors)) known ∙ unfilled sound.shape.successors 3 0 n.successors sound.joined (well.few_successors n.kind sound.shape known) in
      λ i. record { kind = n.kind; numbers = numbers i; successors = successors i }

  nodes_shown : (nodes : List Node) (digests : List (List ℕ)) → length digests ≡ length nodes → AllByRecursion IsSomewhere nodes → map (node_in judging) (with_digests (map record_of nodes) digests) ≡ nodes
  nodes_shown [] digests long all = refl
  nodes_shown (n ∷ nodes) [] long all = absurd (omega arith)
  nodes_shown (n ∷ nodes) (d ∷ digests) long all =
      let first = node_shown n d all.0 in
      let rest = nodes_shown nodes digests (omega arith) all.1 in
      λ i. first i ∷ rest i

digests_shown : (nodes : List Node) (digests : List (List ℕ)) → length digests ≡ length nodes → map (λ (r : SheetRecord). r.digest) (with_digests (map record_of nodes) digests) ≡ digests
digests_shown [] [] long = refl
digests_shown [] (d ∷ digests) long = absurd (omega arith)
digests_shown (n ∷ nodes) [] long = absurd (omega arith)
digests_shown (n ∷ nodes) (d ∷ digests) long = ap (λ (t : List (List ℕ)). d ∷ t) (digests_shown nodes digests (omega arith))

length_records : (nodes : List Node) (digests : List (List ℕ)) → length digests ≡ length nodes → length (with_digests (map record_of nodes) digests) ≡ length nodes
length_records [] digests long = refl
length_records (n ∷ nodes) [] long = absurd (omega arith)
length_records (n ∷ nodes) (d ∷ digests) long = ap suc (length_records nodes digests (omega arith))

-- a figure's records stand before whatever else the sheet has
records_show : {Q : Type 0} (judging : Judging Q) (hash : List ℕ → List ℕ) (figure : List Node) (sheet : List SheetRecord)
    → JudgesWell judging → IsFigure judging figure → length figure ≤ usable sheet → ShowsFigure judging hash figure (published_records hash figure ++ drop (length figure) sheet)
records_show judging hash figure sheet well is fits =
    let many = length_digests hash figure in
    let records = published_records hash figure in
    let rest = drop (length figure) sheet in
    let long : length records ≡ length figure = length_records figure (digests_of hash figure) many in
    let cut : take (length figure) (records ++ rest) ≡ records = take_at records rest (length figure) long in
    let digests : map (λ (r : SheetRecord). r.digest) records ≡ digests_of hash figure = digests_shown figure (digests_of hash figure) many in
    let size : length (records ++ rest) ≡ length sheet = omega (arith, length-append records rest, long, length-drop (length figure) sheet) in
    record {
      nodes = ap (map (node_in judging)) cut ∙ nodes_shown judging well figure (digests_of hash figure) many (all_from_nth (IsSomewhere judging well) figure (λ i n at. (i, is.sound i n at)));
      digests = ap (map (λ (r : SheetRecord). r.digest)) cut ∙ digests;
      counted = and_from (ltb 0 (length figure)) (leb (length figure) (usable (records ++ rest))) (lt-ltb 0 (length figure) is.some) (le-leb (length figure) (usable (records ++ rest)) (omega (arith, fits, size)));
      root = ap (option_map (λ (r : SheetRecord). r.digest)) (nth_left records rest (root_of figure) (omega (arith, is.some, long))) ∙ sym (nth_map (λ (r : SheetRecord). r.digest) records (root_of figure)) ∙ ap (λ (t : List (List ℕ)). slice_get t (root_of figure)) digests;
    }

pub published_sheets_show : {Q : Type 0} (judging : Judging Q) → PublishedSheetsShowTheirFigure judging
published_sheets_show judging hash figure sheet well is fits =
    subst (ShowsFigure judging hash figure)
    (sym (cond-true (leb (length figure) (usable sheet)) (published_records hash figure ++ drop (length figure) sheet) (drawn_sheet figure sheet) (le-leb (length figure) (usable sheet) fits)))
    (records_show judging hash figure sheet well is fits)
