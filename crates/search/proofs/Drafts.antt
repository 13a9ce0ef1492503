-- What is drawn behind the first records of a sheet.
use Rattle.std.proofs.Common.{◌≡◌, ℕ, suc, ◌+◌, ◌<◌, ◌≤◌, min, List, [], ◌∷◌, ◌++◌, length, drop, set, Some, None, Ok, Result, sym, ap, ◌∙◌, subst, ⊎_elim, append_assoc, arith, length-append}
use Rattle.std.specs.List.{position_from}
use Rattle.std.proofs.lemmas.List.{length-take-le, take_all, set_split}
use Rattle.std.proofs.lemmas.Bool.{cases_Bool, cond-true, cond-false, le-leb}
use Rattle.refusal.specs.declared.Refusal.{Refusal}
use Rattle.search.specs.declared.sheet.SheetRecord.{SheetRecord}
use Rattle.search.specs.Sheet.{usable}
use Rattle.search.specs.Drafting.{alike_records, place_of_alike_record, Drawn, found_or_added, drafted_record, drawn_so_far, sheet_with, place_answer}
use Rattle.search.proofs.Places.{not_both, some_same}

-- a found place is one of theirs
alike_bound : (start : ℕ) (sought : SheetRecord) (records : List SheetRecord) (p : ℕ) → position_from (alike_records sought) start records ≡ Some p → p < start + length records
alike_bound start sought [] p h = absurd (not_both p h)
alike_bound start sought (other ∷ others) p h =
    ⊎_elim
    (λ t. let e = some_same start p (sym (cond-true (alike_records sought other) (Some start) (position_from (alike_records sought) (start + 1) others) t) ∙ h) in omega (arith, e))
    (λ f. let e = alike_bound (start + 1) sought others p (sym (cond-false (alike_records sought other) (Some start) (position_from (alike_records sought) (start + 1) others) f) ∙ h) in omega (arith, e))
    (cases_Bool (alike_records sought other))

pub found_bound : (sought : SheetRecord) (records : List SheetRecord) (p : ℕ) → place_of_alike_record sought records ≡ Some p → p < length records
found_bound sought records p h = let e = alike_bound 0 sought records p h in omega (arith, e)

-- what is drawn behind the records drawn so far: the answer, what is left, and how many are drawn then
pub record Outcome (sheet : List SheetRecord) (drawn : Drawn) (answer : Result ℕ Refusal) (left : List SheetRecord) (len : ℕ) : Type 0 where
  pub answered : answer ≡ place_answer sheet drawn
  pub leaves : left ≡ sheet_with sheet drawn.records
  pub counts : len ≡ min (usable sheet) (length drawn.records)

module _ (sheet : List SheetRecord) (len : ℕ) (added : SheetRecord) where
  abbrev before : List SheetRecord
  before = drawn_so_far len sheet

  abbrev run : ℕ
  run = min len (usable sheet)

  length_before : length before ≡ run
  length_before = length-take-le run sheet (omega arith)

  length_more : length (before ++ added ∷ []) ≡ suc run
  length_more = let e = length-append before (added ∷ []) in omega (arith, e, length_before)

  -- of records that fit, all are drawn
  drawn_whole : (records : List SheetRecord) → length records ≤ usable sheet → sheet_with sheet records ≡ records ++ drop (length records) sheet
  drawn_whole records h =
      let least : min (usable sheet) (length records) ≡ length records = omega arith in
      ap (λ (t : List SheetRecord). t ++ drop (min (usable sheet) (length records)) sheet) (take_all (usable sheet) records h) ∙ ap (λ (n : ℕ). records ++ drop n sheet) least

  node_drawn : place_of_alike_record added before ≡ None → run < usable sheet → Outcome sheet (drafted_record before added) (Ok run) (set sheet run added) (run + 1)
  node_drawn h room =
      let drawn = sym (ap (found_or_added before added) h) in
      let small : length (before ++ added ∷ []) ≤ usable sheet = omega (arith, length_more) in
      let all : run + 1 ≡ min (usable sheet) (length (before ++ added ∷ [])) = omega (arith, length_more) in
      record {
        answered = ap (λ (n : ℕ). Ok n) (sym length_before) ∙ sym (cond-true _ _ _ (le-leb _ _ small)) ∙ ap (place_answer sheet) drawn;
        leaves = set_split sheet run added (omega arith) ∙ sym (append_assoc before (added ∷ []) (drop (suc run) sheet)) ∙ ap (λ (n : ℕ). (before ++ added ∷ []) ++ drop n sheet) (sym length_more) ∙ sym (drawn_whole (before ++ added ∷ []) small) ∙ ap (λ (d : Drawn). sheet_with sheet d.records) drawn;
        counts = all ∙ ap (λ (d : Drawn). min (usable sheet) (length d.records)) drawn;
      }

  -- the same, of the records that the code has read
  module _ (records : List SheetRecord) (is : records ≡ before) where
    pub place_small : (place : ℕ) → Some place ≡ place_of_alike_record added records → place < 8192
    place_small place h = omega (arith, found_bound added records place (sym h), ap length is, length_before)

    pub newly_drawn : None ≡ place_of_alike_record added records → length records < usable sheet → Outcome sheet (drafted_record before added) (Ok (length records)) (set sheet (length records) added) (length records + 1)
    newly_drawn h room =
        let many : length records ≡ run = ap length is ∙ length_before in
        subst (λ (n : ℕ). Outcome sheet (drafted_record before added) (Ok n) (set sheet n added) (n + 1)) (sym many) (node_drawn (ap (place_of_alike_record added) (sym is) ∙ sym h) (omega (arith, many, room)))
