-- A drawn figure read again from its records.
use Rattle.std.proofs.Common.{◌≡◌, ℕ, suc, ◌+◌, ◌≤◌, min, leb, List, [], ◌∷◌, ◌++◌, map, length, take, drop, replicate, pos, Some, Ok, Err, Option, sym, refl, ap, ◌∙◌, subst, ⊎_elim, arith}
use Rattle.std.specs.List.{slice_get}
use Rattle.std.proofs.lemmas.List.{length-map, take_at, drop_at, take_all, take-take}
use Rattle.std.proofs.lemmas.Bool.{cases_Bool, cond-true, cond-false, le-leb, leb-true}
use Rattle.refusal.specs.declared.Refusal.TheVariants.{SheetTooSmall}
use Rattle.node.specs.declared.shape.Shape.{Shape}
use Rattle.search.specs.declared.sheet.SheetRecord.{SheetRecord}
use Rattle.search.specs.Node.{Node}
use Rattle.search.specs.Judging.{Judging}
use Rattle.search.specs.Figure.{IsFigure, Sound}
use Rattle.search.specs.Laws.{JudgesWell}
use Rattle.search.specs.Honest.{digests_of}
use Rattle.search.specs.Sheet.{usable, filled_to, record_of, drawn_sheet, drawn_count}
use Rattle.calls.specs.Publishing.{with_digests, published_sheet}
use Rattle.calls.proofs.Chains.{ok_same, not_ok}
use Rattle.calls.specs.Sheets.{or_bare, node_in, nodes_in}

-- fields read as many as there were
read_back : {X : Type 0} (k count : ℕ) (filler : X) (xs : List X) → length xs ≡ k → k ≤ count → take k (filled_to count filler xs) ≡ xs
read_back k count filler xs long few = take-take k count (xs ++ replicate count filler) few ∙ take_at xs (replicate count filler) k long

-- a sound node is the one that its record shows
shows : {Q : Type 0} (judging : Judging Q) → JudgesWell judging → (place : ℕ) (node : Node) → Sound judging place node → node_in judging (record_of node) ≡ node
shows judging well place node sound =
    let shape = sound.shape in
    let known = sound.judgeable.known in
    ap (λ (o : Option Shape). record { kind = node.kind; numbers = take (or_bare o).numbers (filled_to 4 (pos 0) node.numbers); successors = take (or_bare o).successors (filled_to 3 0 node.successors) }) known
    ∙ (λ i. record { kind = node.kind; numbers = read_back shape.numbers 4 (pos 0) node.numbers sound.judgeable.counted (well.few_numbers node.kind shape known) i; successors = read_back shape.successors 3 0 node.successors sound.joined (well.few_successors node.kind shape known) i })

show : {Q : Type 0} (judging : Judging Q) → JudgesWell judging → (before : ℕ) (nodes : List Node) → ((place : ℕ) (node : Node) → slice_get nodes place ≡ Some node → Sound judging (before + place) node) → map (node_in judging) (map record_of nodes) ≡ nodes
show judging well before [] sound = refl
show judging well before (node ∷ nodes) sound =
    (λ i. shows judging well (before + 0) node (sound 0 node refl) i ∷ show judging well (suc before) nodes (λ place n at. let e : before + suc place ≡ suc before + place = omega arith in subst (λ (p : ℕ). Sound judging p n) e (sound (suc place) n at)) i)

module _ (figure : List Node) (sheet : List SheetRecord) (fits : length figure ≤ usable sheet) where
  pub drawn_whole : drawn_sheet figure sheet ≡ map record_of figure ++ drop (length figure) sheet
  drawn_whole =
      let least : min (usable sheet) (length figure) ≡ length figure = omega arith in
      (λ i. map record_of (take_all (usable sheet) figure fits i) ++ drop (least i) sheet)

  long : length (map record_of figure) ≡ length figure
  long = length-map figure record_of

  front : take (length figure) (drawn_sheet figure sheet) ≡ map record_of figure
  front = ap (take (length figure)) drawn_whole ∙ take_at (map record_of figure) (drop (length figure) sheet) (length figure) long

  back : drop (length figure) (drawn_sheet figure sheet) ≡ drop (length figure) sheet
  back = ap (drop (length figure)) drawn_whole ∙ drop_at (map record_of figure) (drop (length figure) sheet) (length figure) long

  module _ {Q : Type 0} (judging : Judging Q) (well : JudgesWell judging) (is : IsFigure judging figure) where
    same_nodes : nodes_in judging (drawn_sheet figure sheet) (length figure) ≡ figure
    same_nodes = ap (map (node_in judging)) front ∙ show judging well 0 figure (λ place node at. let e : place ≡ 0 + place = omega arith in subst (λ (p : ℕ). Sound judging p node) e (is.sound place node at))

    pub drawn_figure : IsFigure judging (nodes_in judging (drawn_sheet figure sheet) (length figure))
    drawn_figure = subst (IsFigure judging) (sym same_nodes) is

    pub published : (hash : List ℕ → List ℕ)
        → with_digests (take (length figure) (drawn_sheet figure sheet)) (digests_of hash (nodes_in judging (drawn_sheet figure sheet) (length figure))) ++ drop (length figure) (drawn_sheet figure sheet)
        ≡ published_sheet hash figure sheet
    published hash =
        (λ i. with_digests (front i) (digests_of hash (same_nodes i)) ++ back i)
        ∙ sym (cond-true (leb (length figure) (usable sheet)) _ _ (le-leb (length figure) (usable sheet) fits))

-- what an answer of the drawing says
pub counted : (figure : List Node) (sheet : List SheetRecord) (count : ℕ) → Ok count ≡ drawn_count figure sheet → (count ≡ length figure) × (length figure ≤ usable sheet)
counted figure sheet count h =
    ⊎_elim
    (λ t. let e : Ok count ≡ Ok (length figure) = h ∙ cond-true _ _ _ t in (ok_same count (length figure) e, leb-true _ _ t))
    (λ f. let e : Ok count ≡ Err SheetTooSmall = h ∙ cond-false _ _ _ f in absurd (not_ok SheetTooSmall count (sym e)))
    (cases_Bool (leb (length figure) (usable sheet)))
