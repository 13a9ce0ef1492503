-- A tree of sites drawn call after call: the halves, then the span.
use Rattle.std.proofs.Common.{◌≡◌, ℕ, ◌≤◌, List, ◌∷◌, ◌++◌, map, length, take, drop, ℤ, Ok, Err, Result, sym, ap, ◌∙◌, subst, arith}
use Rattle.std.proofs.lemmas.List.{take-map, drop-map, length-map}
use Rattle.refusal.specs.declared.Refusal.{Refusal}
use Rattle.records.specs.declared.raw.SiteRecord.{SiteRecord}
use Rattle.search.specs.declared.sheet.SheetRecord.{SheetRecord}
use Rattle.search.specs.declared.drafting.Draft.{Draft}
use Rattle.search.specs.Rose.{Rose, Roses, grown, more}
use Rattle.search.specs.Sheet.{record_of}
use Rattle.search.specs.Drafting.{Drawn, drafted_each, drawn_in, Draws, DrawsRose}
use Rattle.search.proofs.Sequences.{Grows, record_grows, grows_on, roses_grow}
use Rattle.site_figure.specs.Halving.{Tree, both, half, tree_of, leaves_of, left_half, right_half}
use Rattle.site_figure.proofs.Halves.{leaves_tree_of, tree_of_halves}
use Rattle.site_chart.specs.Spanned.{spanned}
use Rattle.site_chart.proofs.Halves.{first_refused, second_refused, rest_drawn}

-- what is drawn besides and the span itself only add records
span_grows : (kind : ℕ) (numbers : List ℤ) (besides : Roses) (left right : ℕ) → Grows (spanned kind numbers left right besides)
span_grows kind numbers besides left right records =
    let a = roses_grow besides records in
    let b = record_grows (record_of (record { kind = kind; numbers = numbers; successors = left ∷ right ∷ (drafted_each records besides).places })) (drafted_each records besides).records in
    (a.0 ++ b.0, grows_on records (drafted_each records besides).records _ a.0 b.0 a.1 b.1)

-- sites parted in the middle: the tree of all has the trees of the parts, and all at its leaves
module _ {A : Type 0} (raw : A → SiteRecord) (xs front back : List A) (many : 2 ≤ length xs) (middle : ℕ) (is : middle ≡ half (length xs)) (front_is : front ≡ take middle xs) (back_is : back ≡ drop middle xs) where
  abbrev records : List SiteRecord
  records = map raw xs

  abbrev lesser : Tree SiteRecord
  lesser = tree_of (map raw front)

  abbrev greater : Tree SiteRecord
  greater = tree_of (map raw back)

  middle_of_records : middle ≡ half (length records)
  middle_of_records = is ∙ ap half (sym (length-map xs raw))

  parted : tree_of records ≡ both lesser greater
  parted =
      let first : left_half records ≡ map raw front = ap (λ (n : ℕ). take n records) (sym middle_of_records) ∙ take-map raw middle xs ∙ ap (map raw) (sym front_is) in
      let second : right_half records ≡ map raw back = ap (λ (n : ℕ). drop n records) (sym middle_of_records) ∙ drop-map raw middle xs ∙ ap (map raw) (sym back_is) in
      tree_of_halves records (omega (arith, length-map xs raw)) ∙ (λ i. both (tree_of (first i)) (tree_of (second i)))

  all_leaves : leaves_of lesser ++ leaves_of greater ≡ records
  all_leaves = ap leaves_of (sym parted) ∙ leaves_tree_of records

  module _ (rose : Tree SiteRecord → Rose) (kind : ℕ) (numbers : List SiteRecord → List ℤ) (besides : List SiteRecord → Roses)
      (of_both : (l r : Tree SiteRecord) → rose (both l r) ≡ grown kind (numbers (leaves_of l ++ leaves_of r)) (more (rose l) (more (rose r) (besides (leaves_of l ++ leaves_of r)))))
      (before : Draft) where
    abbrev halved : Rose
    halved = grown kind (numbers records) (more (rose lesser) (more (rose greater) (besides records)))

    whole_is : halved ≡ rose (tree_of records)
    whole_is = sym (ap rose parted ∙ of_both lesser greater ∙ ap (λ (l : List SiteRecord). grown kind (numbers l) (more (rose lesser) (more (rose greater) (besides l)))) all_leaves)

    whole_drawn : (after : Draft) (answer : Result ℕ Refusal) → DrawsRose before after answer halved → DrawsRose before after answer (rose (tree_of records))
    whole_drawn after answer told = subst (DrawsRose before after answer) whole_is told

    abbrev span : ℕ → ℕ → List SheetRecord → Drawn
    span left right = spanned kind (numbers records) left right (besides records)

    grows : (p q : ℕ) → Grows (span p q)
    grows = span_grows kind (numbers records) (besides records)

    pub lesser_refused : (after : Draft) (e : Refusal) → DrawsRose before after (Err e) (rose lesser) → DrawsRose before after (Err e) (rose (tree_of records))
    lesser_refused after e told = whole_drawn after (Err e) (first_refused before (rose lesser) (rose greater) span grows after e told)

    module _ (one : Draft) (x : ℕ) (first-told : DrawsRose before one (Ok x) (rose lesser)) where
      pub greater_refused : (after : Draft) (e : Refusal) → DrawsRose one after (Err e) (rose greater) → DrawsRose before after (Err e) (rose (tree_of records))
      greater_refused after e told = whole_drawn after (Err e) (second_refused before (rose lesser) (rose greater) span grows one x first-told after e told)

      pub span_drawn : (other : Draft) (y : ℕ) → DrawsRose one other (Ok y) (rose greater)
          → (after : Draft) (answer : Result ℕ Refusal) → Draws other after answer (span x y (drawn_in other)) → DrawsRose before after answer (rose (tree_of records))
      span_drawn other y second-told after answer told = whole_drawn after answer (rest_drawn before (rose lesser) (rose greater) span grows one x first-told other y second-told after answer told)
