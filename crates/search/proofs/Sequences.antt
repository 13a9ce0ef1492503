-- Drawing goes on where it stopped: one drawing call after another on one draft.
use Rattle.std.proofs.Common.{◌≡◌, ℕ, ◌<◌, ◌≤◌, min, cond, leb, List, [], ◌∷◌, ◌++◌, length, take, drop, Some, None, Ok, Err, Option, Result, true, false, subst, sym, refl, ap, ◌∙◌, ⊎_elim, append_assoc, arith, length-append}
use Rattle.std.proofs.lemmas.List.{append-nil, length-take, length-drop, take_all, take-append-le}
use Rattle.std.proofs.lemmas.Slice.{drop-append-drop}
use Rattle.std.specs.Result.{IsErrAnd}
use Rattle.std.proofs.lemmas.Result.{err_from_is_err_and}
use Rattle.std.proofs.lemmas.Bool.{cases_Bool, cond-true, cond-false, lt-leb, leb-true, leb-false}
use Rattle.refusal.specs.declared.Refusal.{Refusal}
use Rattle.refusal.specs.declared.Refusal.TheVariants.{SheetTooSmall}
use Rattle.search.specs.declared.sheet.SheetRecord.{SheetRecord}
use Rattle.search.specs.declared.drafting.Draft.{Draft}
use Rattle.search.specs.Rose.{Rose, Roses, grown, end, more}
use Rattle.search.specs.Sheet.{record_of, usable}
use Rattle.search.specs.Drafting.{place_of_alike_record, Drawn, found_or_added, drafted_record, drafted, drafted_each, drawn_so_far, sheet_with, drawn_in, Draws}
use Rattle.search.proofs.Growing.{node}

-- drawing only adds records
abbrev pub Grows : (List SheetRecord → Drawn) → Type 0
Grows draw = (records : List SheetRecord) → (new : List SheetRecord) × ((draw records).records ≡ records ++ new)

found_grows : (records : List SheetRecord) (added : SheetRecord) (o : Option ℕ) → (new : List SheetRecord) × ((found_or_added records added o).records ≡ records ++ new)
found_grows records added (Some p) = ([], sym (append-nil records))
found_grows records added None = (added ∷ [], refl)

pub record_grows : (added : SheetRecord) → Grows (λ records. drafted_record records added)
record_grows added records = found_grows records added (place_of_alike_record added records)

pub grows_on : (records a b new newer : List SheetRecord) → a ≡ records ++ new → b ≡ a ++ newer → b ≡ records ++ (new ++ newer)
grows_on records a b new newer e f = f ∙ ap (λ (t : List SheetRecord). t ++ newer) e ∙ append_assoc records new newer

mutual
  pub rose_grows : (r : Rose) (records : List SheetRecord) → (new : List SheetRecord) × ((drafted records r).records ≡ records ++ new)
  rose_grows (grown k zs rs) records =
      let each = roses_grow rs records in
      let here = record_grows (record_of (node k zs (drafted_each records rs).places)) (drafted_each records rs).records in
      (each.0 ++ here.0, grows_on records (drafted_each records rs).records _ each.0 here.0 each.1 here.1)

  pub roses_grow : (rs : Roses) (records : List SheetRecord) → (new : List SheetRecord) × ((drafted_each records rs).records ≡ records ++ new)
  roses_grow end records = ([], sym (append-nil records))
  roses_grow (more r rs) records =
      let first = rose_grows r records in
      let rest = roses_grow rs (drafted records r).records in
      (first.0 ++ rest.0, grows_on records (drafted records r).records _ first.0 rest.0 first.1 rest.1)

module _ (sheet records : List SheetRecord) where
  pub length_kept : length (sheet_with sheet records) ≡ length sheet
  length_kept =
      length-append (take (usable sheet) records) (drop (min (usable sheet) (length records)) sheet)
      ∙ omega (arith, length-take (usable sheet) records, length-drop (min (usable sheet) (length records)) sheet)

  pub usable_kept : usable (sheet_with sheet records) ≡ usable sheet
  usable_kept = ap (min 8192) length_kept

  -- what was drawn stands there
  pub so_far : length records ≤ usable sheet → drawn_so_far (length records) (sheet_with sheet records) ≡ records
  so_far h =
      let least : min (length records) (usable (sheet_with sheet records)) ≡ length records = omega (arith, usable_kept) in
      let whole : take (usable sheet) records ≡ records = take_all (usable sheet) records h in
      ap (λ (n : ℕ). take n (sheet_with sheet records)) least
      ∙ ap (λ (t : List SheetRecord). take (length records) (t ++ drop (min (usable sheet) (length records)) sheet)) whole
      ∙ take-append-le (length records) records _ (omega arith) ∙ take_all (length records) records (omega arith)

  pub drawn_on : (new : List SheetRecord) → sheet_with (sheet_with sheet records) (records ++ new) ≡ sheet_with sheet (records ++ new)
  drawn_on new =
      ap (λ (u : ℕ). take u (records ++ new) ++ drop (min u (length (records ++ new))) (sheet_with sheet records)) usable_kept
      ∙ ap (λ (t : List SheetRecord). take (usable sheet) (records ++ new) ++ t) (drop-append-drop (min (usable sheet) (length records)) sheet (take (usable sheet) records) (min (usable sheet) (length (records ++ new))) (omega (arith, length-append records new)) (length-take (usable sheet) records))

  -- a full sheet stays as it is
  pub full_stays : (new : List SheetRecord) → usable sheet < length records → sheet_with sheet records ≡ sheet_with sheet (records ++ new)
  full_stays new h =
      let same : min (usable sheet) (length records) ≡ min (usable sheet) (length (records ++ new)) = omega (arith, length-append records new) in
      ap (λ (t : List SheetRecord). t ++ drop (min (usable sheet) (length records)) sheet) (sym (take-append-le (usable sheet) records new (omega arith)))
      ∙ ap (λ (n : ℕ). take (usable sheet) (records ++ new) ++ drop n sheet) same

-- what an accepted drawing says
pub record Accepted (before after : Draft) (place : ℕ) (drawn : Drawn) : Type 0 where
  pub is_place : place ≡ drawn.place
  pub fits : length drawn.records ≤ usable before.sheet.now
  pub so_far : drawn_in after ≡ drawn.records

module _ (before after : Draft) (drawn : Drawn) where
  pub accepted : (place : ℕ) → Draws before after (Ok place) drawn → Accepted before after place drawn
  accepted place told = ⊎_elim inside outside (cases_Bool (leb (length drawn.records) (usable before.sheet.now)))
    where
      inside : leb (length drawn.records) (usable before.sheet.now) ≡ true → Accepted before after place drawn
      inside t =
          let e : ◌≡◌ {A = Result ℕ Refusal} (Ok place) (Ok drawn.place) = told.answered ∙ cond-true _ _ _ t in
          let small = leb-true (length drawn.records) (usable before.sheet.now) t in
          let many : after.len ≡ length drawn.records = omega (arith, told.counts, small) in
          record {
            is_place = unwrapped place drawn.place e;
            fits = small;
            so_far = ap (λ (n : ℕ). drawn_so_far n after.sheet.now) many ∙ ap (drawn_so_far (length drawn.records)) told.leaves ∙ so_far before.sheet.now drawn.records small;
          }
        where
          unwrapped : (x y : ℕ) → ◌≡◌ {A = Result ℕ Refusal} (Ok x) (Ok y) → x ≡ y
          unwrapped x y e = cc

      outside : leb (length drawn.records) (usable before.sheet.now) ≡ false → Accepted before after place drawn
      outside f = absurd (apart place (told.answered ∙ cond-false _ _ _ f))
        where
          apart : (x : ℕ) → ◌≡◌ {A = Result ℕ Refusal} (Ok x) (Err SheetTooSmall) → ⊥
          apart x e = let z : ◌≡◌ {A = ℕ} 0 1 = cc in omega arith

  pub not_accepted : (e : Refusal) → Draws before after (Err e) drawn → (e ≡ SheetTooSmall) × (usable before.sheet.now < length drawn.records)
  not_accepted e told =
      ⊎_elim
      (λ t. absurd (apart drawn.place e (told.answered ∙ cond-true _ _ _ t)))
      (λ f. (unwrapped e SheetTooSmall (told.answered ∙ cond-false _ _ _ f), leb-false _ _ f))
      (cases_Bool (leb (length drawn.records) (usable before.sheet.now)))
    where
      unwrapped : (x y : Refusal) → ◌≡◌ {A = Result ℕ Refusal} (Err x) (Err y) → x ≡ y
      unwrapped x y g = cc

      apart : (x : ℕ) (e : Refusal) → ◌≡◌ {A = Result ℕ Refusal} (Err e) (Ok x) → ⊥
      apart x e g = let z : ◌≡◌ {A = ℕ} 0 1 = cc in omega arith

-- after an accepted drawing, the next one, told of the draft as it was before both
pub next : (before middle after : Draft) (first : Drawn) (place : ℕ) → Draws before middle (Ok place) first
    → (draw : List SheetRecord → Drawn) → Grows draw
    → (answer : Result ℕ Refusal) → Draws middle after answer (draw (drawn_in middle)) → Draws before after answer (draw first.records)
next before middle after first place told draw grows answer then =
    let sheet = before.sheet.now in
    let more = draw first.records in
    let grown-by = grows first.records in
    let later = subst (λ (t : List SheetRecord). Draws middle after answer (draw t)) (accepted before middle first place told).so_far then in
    let room : usable middle.sheet.now ≡ usable sheet = ap usable told.leaves ∙ usable_kept sheet first.records in
    record {
      same_sheet = later.same_sheet ∙ told.same_sheet;
      answered = later.answered ∙ ap (λ (u : ℕ). cond (leb (length more.records) u) (Ok more.place) (Err SheetTooSmall)) room;
      leaves = later.leaves ∙ ap (λ (t : List SheetRecord). sheet_with t more.records) told.leaves ∙ ap (sheet_with (sheet_with sheet first.records)) grown-by.1 ∙ drawn_on sheet first.records grown-by.0 ∙ ap (sheet_with sheet) (sym grown-by.1);
      counts = later.counts ∙ ap (λ (u : ℕ). min u (length more.records)) room;
    }

-- after a refused drawing nothing else is drawn: the whole is refused, and leaves the same
pub stop : (before after : Draft) (first : Drawn) (e : Refusal) → Draws before after (Err e) first
    → (draw : List SheetRecord → Drawn) → Grows draw → Draws before after (Err e) (draw first.records)
stop before after first e told draw grows =
    let sheet = before.sheet.now in
    let is = not_accepted before after first e told in
    let grown-by = grows first.records in
    let long : usable sheet < length (draw first.records).records = omega (arith, is.1, ap length grown-by.1, length-append first.records grown-by.0) in
    record {
      same_sheet = told.same_sheet;
      answered = ap Err is.0 ∙ sym (cond-false (leb (length (draw first.records).records) (usable sheet)) _ _ (lt-leb _ _ long));
      leaves = told.leaves ∙ full_stays sheet first.records grown-by.0 is.1 ∙ ap (sheet_with sheet) (sym grown-by.1);
      counts = omega (arith, told.counts, is.1, long);
    }

-- a refusal passed on
pub passed_on : (before after : Draft) (drawn : Drawn) (e : Refusal) (answer : Result ℕ Refusal) → IsErrAnd answer (λ f. f ≡ e) → Draws before after (Err e) drawn → Draws before after answer drawn
passed_on before after drawn e answer is told =
    let q = err_from_is_err_and answer is in
    record { same_sheet = told.same_sheet; answered = q.1 ∙ ap Err q.2 ∙ told.answered; leaves = told.leaves; counts = told.counts }

-- before the first drawing nothing is drawn
pub none_so_far : (draft : Draft) → draft.len ≡ 0 → drawn_in draft ≡ []
none_so_far draft none =
    let least : min draft.len (usable draft.sheet.now) ≡ 0 = omega (arith, none) in
    ap (λ (n : ℕ). take n draft.sheet.now) least
