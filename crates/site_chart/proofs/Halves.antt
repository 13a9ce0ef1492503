-- Two roses drawn call after call, then what reads their places.
use Rattle.std.proofs.Common.{◌≡◌, ℕ, List, [], ◌∷◌, ◌++◌, ℤ, Ok, Err, Result, subst, ap, ◌∙◌}
use Rattle.refusal.specs.declared.Refusal.{Refusal}
use Rattle.search.specs.declared.sheet.SheetRecord.{SheetRecord}
use Rattle.search.specs.declared.drafting.Draft.{Draft}
use Rattle.search.specs.Rose.{Rose, more, end}
use Rattle.search.specs.Sheet.{record_of}
use Rattle.search.specs.Drafting.{Drawn, drafted, drafted_record, drawn_in, Draws, DrawsRecord, DrawsRose}
use Rattle.search.proofs.Sequences.{Grows, record_grows, grows_on, rose_grows, accepted, next, stop}
use Rattle.site_chart.specs.Spanned.{spanned}

module _ (before : Draft) (a b : Rose) (rest : ℕ → ℕ → List SheetRecord → Drawn) (grows : (p q : ℕ) → Grows (rest p q)) where
  abbrev first : Drawn
  first = drafted (drawn_in before) a

  abbrev second : Drawn
  second = drafted first.records b

  abbrev pub whole : Drawn
  whole = rest first.place second.place second.records

  grows_after : Grows (λ records. rest first.place (drafted records b).place (drafted records b).records)
  grows_after records =
      let new = rose_grows b records in
      let newer = grows first.place (drafted records b).place (drafted records b).records in
      (new.0 ++ newer.0, grows_on records (drafted records b).records _ new.0 newer.0 new.1 newer.1)

  pub first_refused : (after : Draft) (e : Refusal) → DrawsRose before after (Err e) a → Draws before after (Err e) whole
  first_refused after e told = stop before after first e told (λ records. rest first.place (drafted records b).place (drafted records b).records) grows_after

  module _ (one : Draft) (x : ℕ) (first-told : DrawsRose before one (Ok x) a) where
    on_second : (after : Draft) (answer : Result ℕ Refusal) → DrawsRose one after answer b → Draws before after answer second
    on_second after answer told = next before one after first x first-told (λ records. drafted records b) (rose_grows b) answer told

    pub second_refused : (after : Draft) (e : Refusal) → DrawsRose one after (Err e) b → Draws before after (Err e) whole
    second_refused after e told = stop before after second e (on_second after (Err e) told) (rest first.place second.place) (grows first.place second.place)

    pub rest_drawn : (other : Draft) (y : ℕ) → DrawsRose one other (Ok y) b
        → (after : Draft) (answer : Result ℕ Refusal) → Draws other after answer (rest x y (drawn_in other)) → Draws before after answer whole
    rest_drawn other y second-told after answer told =
        let both = on_second other (Ok y) second-told in
        let p = (accepted before one first x first-told).is_place in
        let q = (accepted before other second y both).is_place in
        let there : Draws other after answer (rest first.place second.place (drawn_in other)) =
        subst (λ (m : ℕ). Draws other after answer (rest m second.place (drawn_in other))) p (subst (λ (n : ℕ). Draws other after answer (rest x n (drawn_in other))) q told) in
        next before other after second y both (rest first.place second.place) (grows first.place second.place) answer there

-- a node whose first two successors have places, drawn behind one more
pub besides_drawn : (kind : ℕ) (numbers : List ℤ) (left right : ℕ) (a : Rose) (before one : Draft) (x : ℕ) → DrawsRose before one (Ok x) a
    → (n : SheetRecord) → n ≡ record_of (record { kind = kind; numbers = numbers; successors = left ∷ right ∷ x ∷ [] })
    → (after : Draft) (answer : Result ℕ Refusal) → DrawsRecord one after answer n → Draws before after answer (spanned kind numbers left right (more a end) (drawn_in before))
besides_drawn kind numbers left right a before one x told n is after answer drawn =
    let first : Drawn = drafted (drawn_in before) a in
    let node : ℕ → SheetRecord = λ place. record_of (record { kind = kind; numbers = numbers; successors = left ∷ right ∷ place ∷ [] }) in
    let place = (accepted before one first x told).is_place in
    next before one after first x told (λ records. drafted_record records (node first.place)) (record_grows (node first.place)) answer (subst (DrawsRecord one after answer) (is ∙ ap node place) drawn)
