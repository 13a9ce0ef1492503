-- The draft of a rose is its figure, record by record.
use Rattle.std.proofs.Common.{◌≡◌, ℕ, suc, ◌+◌, ◌<◌, ◌≤◌, min, Bool, true, cond, eqb, leb, List, [], ◌∷◌, ◌++◌, map, length, take, drop, replicate, pos, Some, None, Ok, Err, Option, Result, sym, refl, ap, ◌∙◌, subst, add-one, arith}
use Rattle.std.specs.List.{AllByRecursion, position_from}
use Rattle.std.proofs.ByRecursion.{All-push}
use Rattle.std.proofs.lemmas.List.{take-take, take-append-le, take_all, map-append, length-map, take-map}
use Rattle.std.proofs.lemmas.Bool.{and_parts, and_from, cond-true, cond-false, le-leb, lt-leb}
use Rattle.node.specs.declared.shape.Shape.{Shape}
use Rattle.records.specs.Held.{same_number}
use Rattle.refusal.specs.declared.Refusal.{Refusal}
use Rattle.search.specs.declared.drafting.Draft.{Draft}
use Rattle.search.specs.declared.sheet.SheetRecord.{SheetRecord}
use Rattle.search.specs.Node.{Node}
use Rattle.search.specs.Judging.{Judging}
use Rattle.search.specs.Figure.{root_of}
use Rattle.search.specs.Laws.{JudgesWell}
use Rattle.search.specs.Rose.{Rose, Roses, grown, end, more, how_many}
use Rattle.search.specs.Making.{agree, alike, alike_from, place_of_alike, Made, MadeEach, found_or_next, made_node, made, made_each, figure_of}
use Rattle.search.specs.Sheet.{filled_to, record_of, usable, drawn_sheet, drawn_count}
use Rattle.search.specs.Visit.{FitsWhole, FitEach}
use Rattle.search.specs.Drafting.{alike_records, Drawn, DrawnEach, found_or_added, drafted_record, drafted, drafted_each, sheet_with, Draws, DrawsRose, DraftsAreFigures}
use Rattle.search.proofs.Places.{some_same}
use Rattle.search.proofs.Growing.{node, alike_same, eqb_same}
use Rattle.search.proofs.Rooted.{root_is_last_lem}
use Rattle.search.proofs.Sequences.{none_so_far, accepted, not_accepted}
use Rattle.search.proofs.Finding.{decides_same, numbers_decide, places_decide, eqb_self}

-- lists of one length that are alike when filled are equal
unfilled : {X : Type 0} (n : ℕ) (d : X) (xs : List X) → length xs ≤ n → take (length xs) (filled_to n d xs) ≡ xs
unfilled n d xs h =
    take-take (length xs) n (xs ++ replicate n d) h ∙ take-append-le (length xs) xs (replicate n d) (omega arith) ∙ take_all (length xs) xs (omega arith)

filled_same : {X : Type 0} (n : ℕ) (d : X) (xs ys : List X) → length xs ≡ length ys → length xs ≤ n → filled_to n d xs ≡ filled_to n d ys → xs ≡ ys
filled_same n d xs ys same h e =
    sym (unfilled n d xs h) ∙ ap (take (length xs)) e ∙ ap (λ (k : ℕ). take k (filled_to n d ys)) same ∙ unfilled n d ys (omega (arith, same, h))

-- a node's numbers and successors are as many as the shape of its kind says
pub record Shaped {Q : Type 0} (judging : Judging Q) (n : Node) : Type 0 where
  pub shape : Shape
  pub known : judging.shape_of n.kind ≡ Some shape
  pub numbers : length n.numbers ≡ shape.numbers
  pub successors : length n.successors ≡ shape.successors

alike_refl : (n m : Node) → n ≡ m → alike n m ≡ true
alike_refl n m e =
    and_from (eqb n.kind m.kind) _ (subst (λ (k : ℕ). eqb n.kind k ≡ true) (ap (λ (x : Node). x.kind) e) (eqb_self n.kind)) (and_from (agree same_number n.numbers m.numbers) (agree eqb n.successors m.successors) ((numbers_decide n.numbers m.numbers).1 (ap (λ (x : Node). x.numbers) e)) ((places_decide n.successors m.successors).1 (ap (λ (x : Node). x.successors) e)))

records_refl : (a b : SheetRecord) → a ≡ b → alike_records a b ≡ true
records_refl a b e =
    and_from (eqb a.kind b.kind) _ (subst (λ (k : ℕ). eqb a.kind k ≡ true) (ap (λ (x : SheetRecord). x.kind) e) (eqb_self a.kind)) (and_from (agree same_number a.numbers b.numbers) (agree eqb a.successors b.successors) ((numbers_decide a.numbers b.numbers).1 (ap (λ (x : SheetRecord). x.numbers) e)) ((places_decide a.successors b.successors).1 (ap (λ (x : SheetRecord). x.successors) e)))

module _ {Q : Type 0} (judging : Judging Q) (well : JudgesWell judging) where
  records_same : (n m : Node) → Shaped judging n → Shaped judging m → alike_records (record_of n) (record_of m) ≡ true → n ≡ m
  records_same n m here there h =
      let kinds = and_parts (eqb n.kind m.kind) _ h in
      let rest = and_parts (agree same_number (record_of n).numbers (record_of m).numbers) (agree eqb (record_of n).successors (record_of m).successors) kinds.1 in
      let k = eqb_same n.kind m.kind kinds.0 in
      let shapes : here.shape ≡ there.shape = some_same here.shape there.shape (sym here.known ∙ ap judging.shape_of k ∙ there.known) in
      let zs = filled_same 4 (pos 0) n.numbers m.numbers (here.numbers ∙ ap (λ (s : Shape). s.numbers) shapes ∙ sym there.numbers) (omega (arith, here.numbers, well.few_numbers n.kind here.shape here.known)) ((numbers_decide (record_of n).numbers (record_of m).numbers).0 rest.0) in
      let ps = filled_same 3 0 n.successors m.successors (here.successors ∙ ap (λ (s : Shape). s.successors) shapes ∙ sym there.successors) (omega (arith, here.successors, well.few_successors n.kind here.shape here.known)) ((places_decide (record_of n).successors (record_of m).successors).0 rest.1) in
      λ i. record { kind = k i; numbers = zs i; successors = ps i }

  alike_as_records : (n m : Node) → Shaped judging n → Shaped judging m → alike_records (record_of n) (record_of m) ≡ alike n m
  alike_as_records n m here there =
      decides_same (n ≡ m) (alike_records (record_of n) (record_of m)) (alike n m) (records_same n m here there, λ e. records_refl (record_of n) (record_of m) (ap record_of e)) (alike_same n m, alike_refl n m)

  found_as_records : (p : ℕ) (n : Node) (nodes : List Node) → Shaped judging n → AllByRecursion (Shaped judging) nodes → position_from (alike_records (record_of n)) p (map record_of nodes) ≡ alike_from p n nodes
  found_as_records p n [] here all = refl
  found_as_records p n (m ∷ nodes) here all =
      ap (λ (b : Bool). cond b (Some p) (position_from (alike_records (record_of n)) (p + 1) (map record_of nodes))) (alike_as_records n m here all.0) ∙ ap (λ (q : ℕ). cond (alike n m) (Some p) (position_from (alike_records (record_of n)) q (map record_of nodes))) (add-one p) ∙ ap (cond (alike n m) (Some p)) (found_as_records (suc p) n nodes here all.1)

  abbrev draft_of : Made → Drawn
  draft_of m = record { records = map record_of m.nodes; place = m.place }

  abbrev drafts_of : MadeEach → DrawnEach
  drafts_of m = record { records = map record_of m.nodes; places = m.places }

  draft_node : (nodes : List Node) (n : Node) → Shaped judging n → AllByRecursion (Shaped judging) nodes → (drafted_record (map record_of nodes) (record_of n) ≡ draft_of (made_node nodes n)) × AllByRecursion (Shaped judging) (made_node nodes n).nodes
  draft_node nodes n here all =
      (ap (found_or_added (map record_of nodes) (record_of n)) (found_as_records 0 n nodes here all) ∙ same (place_of_alike n nodes), shaped (place_of_alike n nodes))
    where
      same : (o : Option ℕ) → found_or_added (map record_of nodes) (record_of n) o ≡ draft_of (found_or_next nodes n o)
      same (Some p) = refl
      same None =
          let rs = sym (map-append record_of nodes (n ∷ [])) in
          let k = length-map nodes record_of in
          λ i. record { records = rs i; place = k i }

      shaped : (o : Option ℕ) → AllByRecursion (Shaped judging) (found_or_next nodes n o).nodes
      shaped (Some p) = all
      shaped None = All-push (Shaped judging) nodes n all here

  pub record IsDraft (nodes : List Node) (r : Rose) : Type 0 where
    pub same : drafted (map record_of nodes) r ≡ draft_of (made nodes r)
    pub shaped : AllByRecursion (Shaped judging) (made nodes r).nodes

  pub record AreDrafts (nodes : List Node) (rs : Roses) : Type 0 where
    pub same : drafted_each (map record_of nodes) rs ≡ drafts_of (made_each nodes rs)
    pub shaped : AllByRecursion (Shaped judging) (made_each nodes rs).nodes
    pub many : length (made_each nodes rs).places ≡ how_many rs

  mutual
    pub draft_rose : (nodes : List Node) (r : Rose) → AllByRecursion (Shaped judging) nodes → FitsWhole judging r → IsDraft nodes r
    draft_rose nodes (grown k zs rs) all fits =
        let each = draft_roses nodes rs all fits.1 in
        let shape : Shaped judging (node k zs (made_each nodes rs).places) = record { shape = fits.0.shape; known = fits.0.judgeable.known; numbers = fits.0.judgeable.counted; successors = each.many ∙ fits.0.joined } in
        let here = draft_node (made_each nodes rs).nodes (node k zs (made_each nodes rs).places) shape each.shaped in
        record { same = ap (λ (d : DrawnEach). drafted_record d.records (record_of (node k zs d.places))) each.same ∙ here.0; shaped = here.1 }

    pub draft_roses : (nodes : List Node) (rs : Roses) → AllByRecursion (Shaped judging) nodes → FitEach judging rs → AreDrafts nodes rs
    draft_roses nodes end all fits = record { same = refl; shaped = all; many = refl }
    draft_roses nodes (more r rs) all fits =
        let first = draft_rose nodes r all fits.0 in
        let rest = draft_roses (made nodes r).nodes rs first.shaped fits.1 in
        record {
          same = ap (λ (d : Drawn). record { records = (drafted_each d.records rs).records; places = d.place ∷ (drafted_each d.records rs).places }) first.same ∙ ap (λ (d : DrawnEach). record { records = d.records; places = (made nodes r).place ∷ d.places }) rest.same;
          shaped = rest.shaped;
          many = ap suc rest.many;
        }

pub drafts_are_figures_lem : {Q : Type 0} (judging : Judging Q) → DraftsAreFigures judging
drafts_are_figures_lem judging well r fits =
    let root = (root_is_last_lem r).0 in
    (draft_rose judging well [] r tt fits).same ∙ (λ i. record { records = map record_of (figure_of r); place = root i })

-- a sheet with a figure's records is the sheet with the figure drawn
pub drawn_sheet_lem : (figure : List Node) (sheet : List SheetRecord) → sheet_with sheet (map record_of figure) ≡ drawn_sheet figure sheet
drawn_sheet_lem figure sheet =
    ap (λ (t : List SheetRecord). t ++ drop (min (usable sheet) (length (map record_of figure))) sheet) (take-map record_of (usable sheet) figure) ∙ ap (λ (n : ℕ). map record_of (take (usable sheet) figure) ++ drop (min (usable sheet) n) sheet) (length-map figure record_of)

-- a chart's rose drawn into a draft that nothing was drawn into
module _ {Q : Type 0} (judging : Judging Q) (well : JudgesWell judging) (r : Rose) (fits : FitsWhole judging r) (sheet : List SheetRecord) (before after : Draft) (untouched : before.sheet.now ≡ sheet) (none : before.len ≡ 0) where
  abbrev whole : Drawn
  whole = record { records = map record_of (figure_of r); place = root_of (figure_of r) }

  told_whole : (answer : Result ℕ Refusal) → DrawsRose before after answer r → Draws before after answer whole
  told_whole answer told = subst (Draws before after answer) (ap (λ (t : List SheetRecord). drafted t r) (none_so_far before none) ∙ drafts_are_figures_lem judging well r fits) told

  many : length (map record_of (figure_of r)) ≡ length (figure_of r)
  many = length-map (figure_of r) record_of

  pub whole_leaves : (answer : Result ℕ Refusal) → DrawsRose before after answer r → after.sheet.now ≡ drawn_sheet (figure_of r) sheet
  whole_leaves answer told = (told_whole answer told).leaves ∙ drawn_sheet_lem (figure_of r) before.sheet.now ∙ ap (drawn_sheet (figure_of r)) untouched

  pub whole_counted : (place : ℕ) → DrawsRose before after (Ok place) r → Ok after.len ≡ drawn_count (figure_of r) sheet
  whole_counted place told =
      let whole-told = told_whole (Ok place) told in
      let small = (accepted before after whole place whole-told).fits in
      let len : after.len ≡ length (figure_of r) = omega (arith, whole-told.counts, small, many) in
      let room : length (figure_of r) ≤ usable sheet = omega (arith, small, many, ap usable untouched) in
      ap Ok len ∙ sym (cond-true _ _ _ (le-leb _ _ room))

  pub whole_refused : (e : Refusal) → DrawsRose before after (Err e) r → Err e ≡ drawn_count (figure_of r) sheet
  whole_refused e told =
      let is = not_accepted before after whole e (told_whole (Err e) told) in
      let full : usable sheet < length (figure_of r) = omega (arith, is.1, many, ap usable untouched) in
      ap Err is.0 ∙ sym (cond-false (leb (length (figure_of r)) (usable sheet)) _ _ (lt-leb _ _ full))
