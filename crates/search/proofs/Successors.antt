-- A node of no, two or three successors drawn: its successors in their order, each by a call, then the node.
use Rattle.std.proofs.Common.{◌≡◌, ℕ, List, [], ◌∷◌, ◌++◌, ℤ, Ok, Err, Result, ◌∙◌, subst}
use Rattle.refusal.specs.declared.Refusal.{Refusal}
use Rattle.search.specs.declared.sheet.SheetRecord.{SheetRecord}
use Rattle.search.specs.declared.drafting.Draft.{Draft}
use Rattle.search.specs.Rose.{Rose, leaf, two, three}
use Rattle.search.specs.Sheet.{record_of}
use Rattle.search.specs.Drafting.{Drawn, drafted, drafted_record, drawn_in, Draws, DrawsRecord, DrawsRose}
use Rattle.search.proofs.Sequences.{Grows, record_grows, grows_on, rose_grows, accepted, next, stop}

grows_rose : (draw : List SheetRecord → Drawn) (r : Rose) → Grows draw → Grows (λ records. drafted (draw records).records r)
grows_rose draw r grows records =
    let a = grows records in
    let b = rose_grows r (draw records).records in
    (a.0 ++ b.0, grows_on records (draw records).records _ a.0 b.0 a.1 b.1)

grows_record : (draw : List SheetRecord → Drawn) (n : List SheetRecord → SheetRecord) → Grows draw → Grows (λ records. drafted_record (draw records).records (n records))
grows_record draw n grows records =
    let a = grows records in
    let b = record_grows (n records) (draw records).records in
    (a.0 ++ b.0, grows_on records (draw records).records _ a.0 b.0 a.1 b.1)

module _ (before : Draft) where
  pub rose_alike : (after : Draft) (answer : Result ℕ Refusal) (rose other : Rose) → rose ≡ other → DrawsRose before after answer rose → DrawsRose before after answer other
  rose_alike after answer rose other same told = subst (DrawsRose before after answer) same told

  pub leaf_drawn : (after : Draft) (answer : Result ℕ Refusal) (kind : ℕ) (numbers : List ℤ) (n : SheetRecord) → n ≡ record_of (record { kind = kind; numbers = numbers; successors = [] })
      → DrawsRecord before after answer n → DrawsRose before after answer (leaf kind numbers)
  leaf_drawn after answer kind numbers n is told = subst (DrawsRecord before after answer) is told

  module _ (kind : ℕ) (numbers : List ℤ) (a b : Rose) where
    abbrev first : Drawn
    first = drafted (drawn_in before) a

    abbrev second : Drawn
    second = drafted first.records b

    abbrev pub node_of_two : ℕ → ℕ → SheetRecord
    node_of_two p q = record_of (record { kind = kind; numbers = numbers; successors = p ∷ q ∷ [] })

    pub two_first : (after : Draft) (e : Refusal) → DrawsRose before after (Err e) a → DrawsRose before after (Err e) (two kind numbers a b)
    two_first after e told =
        stop before after first e told (λ records. drafted_record (drafted records b).records (node_of_two first.place (drafted records b).place))
        (grows_record (λ records. drafted records b) (λ records. node_of_two first.place (drafted records b).place) (rose_grows b))

    module _ (one : Draft) (x : ℕ) (first-told : DrawsRose before one (Ok x) a) where
      on_second : (after : Draft) (answer : Result ℕ Refusal) → DrawsRose one after answer b → Draws before after answer second
      on_second after answer told = next before one after first x first-told (λ records. drafted records b) (rose_grows b) answer told

      pub two_second : (after : Draft) (e : Refusal) → DrawsRose one after (Err e) b → DrawsRose before after (Err e) (two kind numbers a b)
      two_second after e told =
          stop before after second e (on_second after (Err e) told) (λ records. drafted_record records (node_of_two first.place second.place)) (record_grows (node_of_two first.place second.place))

      pub two_last : (other : Draft) (y : ℕ) → DrawsRose one other (Ok y) b
          → (n : SheetRecord) → n ≡ node_of_two x y → (after : Draft) (answer : Result ℕ Refusal) → DrawsRecord other after answer n
          → DrawsRose before after answer (two kind numbers a b)
      two_last other y second-told n is after answer told =
          let both = on_second other (Ok y) second-told in
          let p = (accepted before one first x first-told).is_place in
          let q = (accepted before other second y both).is_place in
          let same : n ≡ node_of_two first.place second.place = is ∙ (λ i. node_of_two (p i) (q i)) in
          next before other after second y both (λ records. drafted_record records (node_of_two first.place second.place)) (record_grows (node_of_two first.place second.place)) answer (subst (DrawsRecord other after answer) same told)

      module _ (c : Rose) where
        abbrev third : Drawn
        third = drafted second.records c

        abbrev pub node_of_three : ℕ → ℕ → ℕ → SheetRecord
        node_of_three p q r = record_of (record { kind = kind; numbers = numbers; successors = p ∷ q ∷ r ∷ [] })

        pub three_second : (after : Draft) (e : Refusal) → DrawsRose one after (Err e) b → DrawsRose before after (Err e) (three kind numbers a b c)
        three_second after e told =
            let n : List SheetRecord → SheetRecord = λ records. node_of_three first.place second.place (drafted records c).place in
            stop before after second e (on_second after (Err e) told) (λ records. drafted_record (drafted records c).records (n records))
            (grows_record (λ records. drafted records c) n (rose_grows c))

        module _ (other : Draft) (y : ℕ) (second-told : DrawsRose one other (Ok y) b) where
          on_third : (after : Draft) (answer : Result ℕ Refusal) → DrawsRose other after answer c → Draws before after answer third
          on_third after answer told = next before other after second y (on_second other (Ok y) second-told) (λ records. drafted records c) (rose_grows c) answer told

          pub three_third : (after : Draft) (e : Refusal) → DrawsRose other after (Err e) c → DrawsRose before after (Err e) (three kind numbers a b c)
          three_third after e told =
              let n = node_of_three first.place second.place third.place in
              stop before after third e (on_third after (Err e) told) (λ records. drafted_record records n) (record_grows n)

          pub three_last : (last : Draft) (z : ℕ) → DrawsRose other last (Ok z) c
              → (n : SheetRecord) → n ≡ node_of_three x y z → (after : Draft) (answer : Result ℕ Refusal) → DrawsRecord last after answer n
              → DrawsRose before after answer (three kind numbers a b c)
          three_last last z third-told n is after answer told =
              let all = on_third last (Ok z) third-told in
              let p = (accepted before one first x first-told).is_place in
              let q = (accepted before other second y (on_second other (Ok y) second-told)).is_place in
              let r = (accepted before last third z all).is_place in
              let node = node_of_three first.place second.place third.place in
              let same : n ≡ node = is ∙ (λ i. node_of_three (p i) (q i) (r i)) in
              next before last after third z all (λ records. drafted_record records node) (record_grows node) answer (subst (DrawsRecord last after answer) same told)

    pub three_first : (c : Rose) (after : Draft) (e : Refusal) → DrawsRose before after (Err e) a → DrawsRose before after (Err e) (three kind numbers a b c)
    three_first c after e told =
        let rest : List SheetRecord → Drawn = λ records. drafted (drafted records b).records c in
        let n : List SheetRecord → SheetRecord = λ records. record_of (record { kind = kind; numbers = numbers; successors = first.place ∷ (drafted records b).place ∷ (rest records).place ∷ [] }) in
        stop before after first e told (λ records. drafted_record (rest records).records (n records))
        (grows_record rest n (grows_rose (λ records. drafted records b) c (rose_grows b)))
