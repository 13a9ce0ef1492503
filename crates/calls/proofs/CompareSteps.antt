-- One step of a cross-check.
use Rattle.std.proofs.Common.{◌≡◌, ℕ, zero, suc, ◌≤◌, true, false, leb, List, [], ◌∷◌, length, Some, Ok, sym, refl, ap, ◌∙◌}
use Rattle.std.proofs.lemmas.Slice.Eq.{bytes_eq-Decides}
use Rattle.std.proofs.lemmas.Bool.{cond-true, le-leb, leb-true}
use Rattle.refusal.specs.declared.Refusal.{Refusal}
use Rattle.refusal.specs.declared.Refusal.TheVariants.{StackFull, KindNotKnown}
use Rattle.node.specs.declared.shape.Shape.{Shape}
use Rattle.reader.specs.Views.{StringSeen}
use Rattle.reader.specs.Reading.{Position, onward, read_kind, read_string}
use Rattle.fault.specs.Layers.{refusal_of_reader}
use Rattle.search.specs.Node.{Node}
use Rattle.search.specs.Judging.{Judging}
use Rattle.search.specs.Figure.{root_of}
use Rattle.search.specs.Honest.{string_in}
use Rattle.search.specs.Walk.{waiting_after, most_waiting}
use Rattle.calls.specs.declared.outcomes.Comparison.{Comparison}
use Rattle.calls.specs.declared.outcomes.Comparison.TheVariants.{Same, Difference, Clash}
use Rattle.calls.specs.Chain.{guard, found, choose}
use Rattle.calls.specs.Sheets.{sound_at}
use Rattle.calls.specs.Comparing.{goes_on_with, past, string_there, has_digest_of, differs_at, differs_at_end, compared_from}
use Rattle.calls.proofs.Chains.{onward_ok, onward_at, carried_ok, carried_at, guard_ok, guard_at, found_ok, found_at, ok_same, choose_yes, choose_no}

-- the whole string of a known kind that stands at a position
module _ {Q : Type 0} (judging : Judging Q) (p : Position) where
  pub record StandsThere (string : List ℕ) : Type 0 where
    pub kind : ℕ
    pub shape : Shape
    pub seen : StringSeen
    pub read : read_kind p ≡ Ok kind
    pub known : judging.shape_of kind ≡ Some shape
    pub whole : read_string p shape ≡ Ok seen
    pub is : string ≡ seen.string

  pub string_there_lem : (string : List ℕ) → string_there judging p ≡ Ok string → StandsThere string
  string_there_lem string h =
      let a = carried_ok refusal_of_reader (read_kind p) _ string h in
      let b = onward_ok (found (judging.shape_of a.0) KindNotKnown) _ string a.2 in
      let c = carried_ok refusal_of_reader (read_string p b.0) (λ (seen : StringSeen). Ok seen.string) string b.2 in
      record { kind = a.0; shape = b.0; seen = c.0; read = a.1; known = found_ok (judging.shape_of a.0) KindNotKnown b.0 b.1; whole = c.1; is = sym (ok_same {E = Refusal} c.0.string string c.2) }

  pub there_from : (kind : ℕ) (shape : Shape) (seen : StringSeen) → read_kind p ≡ Ok kind → judging.shape_of kind ≡ Some shape → read_string p shape ≡ Ok seen → string_there judging p ≡ Ok seen.string
  there_from kind shape seen read known whole =
      carried_at refusal_of_reader (read_kind p) kind _ read
      ∙ onward_at (found (judging.shape_of kind) KindNotKnown) shape _ (found_at (judging.shape_of kind) KindNotKnown shape known)
      ∙ carried_at refusal_of_reader (read_string p shape) seen _ whole

  -- a whole string of a known kind with the digest of another is a clash
  pub clash_there : (hash : List ℕ → List ℕ) (place : ℕ) (string other : List ℕ) → string_there judging p ≡ Ok other → hash other ≡ hash string → differs_at judging hash place string p ≡ Clash place p.at
  clash_there hash place string other there same =
      cond-true (has_digest_of hash string (string_there judging p)) (Clash place p.at) (Difference place p.at) (ap (has_digest_of hash string) there ∙ (bytes_eq-Decides (hash other) (hash string)).1 same)

module _ {Q : Type 0} (judging : Judging Q) (hash : List ℕ → List ℕ) (q : Q) (nodes : List Node) (digests : List (List ℕ)) where
  pub compare_end : (turns : ℕ) (p : Position) → compared_from judging hash q nodes digests (suc turns) p [] ≡ Ok (differs_at_end (root_of nodes) p)
  unfolding compared_from
  compare_end turns p = refl

  pub compare_step : (turns : ℕ) (p : Position) (place : ℕ) (waiting : List ℕ) → compared_from judging hash q nodes digests (suc turns) p (place ∷ waiting)
      ≡ onward (sound_at judging nodes place) (λ n. choose (goes_on_with p (string_in digests n)) (λ _. onward (guard (leb (length (waiting_after judging q n waiting)) most_waiting) StackFull) (λ _. compared_from judging hash q nodes digests turns (past p (string_in digests n)) (waiting_after judging q n waiting))) (λ _. Ok (differs_at judging hash place (string_in digests n) p)))
  unfolding compared_from
  compare_step turns p place waiting = refl

  pub compare_none : (p : Position) (waiting : List ℕ) → compared_from judging hash q nodes digests zero p waiting ≡ Ok Same
  unfolding compared_from
  compare_none p waiting = refl

  pub compared_node : (turns : ℕ) (p : Position) (place : ℕ) (waiting : List ℕ) (answer : Comparison) → compared_from judging hash q nodes digests (suc turns) p (place ∷ waiting) ≡ Ok answer
      → (n : Node) × (sound_at judging nodes place ≡ Ok n)
  compared_node turns p place waiting answer h =
      let a = onward_ok (sound_at judging nodes place) _ answer (sym (compare_step turns p place waiting) ∙ h) in
      (a.0, a.1)

  module _ (turns : ℕ) (p : Position) (place : ℕ) (waiting : List ℕ) (n : Node) (sound : sound_at judging nodes place ≡ Ok n) where
    here : compared_from judging hash q nodes digests (suc turns) p (place ∷ waiting)
        ≡ choose (goes_on_with p (string_in digests n)) (λ _. onward (guard (leb (length (waiting_after judging q n waiting)) most_waiting) StackFull) (λ _. compared_from judging hash q nodes digests turns (past p (string_in digests n)) (waiting_after judging q n waiting))) (λ _. Ok (differs_at judging hash place (string_in digests n) p))
    here = compare_step turns p place waiting ∙ onward_at (sound_at judging nodes place) n _ sound

    -- the proof goes on with the string of the node
    pub compare_same : goes_on_with p (string_in digests n) ≡ true → compared_from judging hash q nodes digests (suc turns) p (place ∷ waiting)
        ≡ onward (guard (leb (length (waiting_after judging q n waiting)) most_waiting) StackFull) (λ _. compared_from judging hash q nodes digests turns (past p (string_in digests n)) (waiting_after judging q n waiting))
    compare_same same = here ∙ choose_yes (goes_on_with p (string_in digests n)) _ _ same

    pub compare_on : goes_on_with p (string_in digests n) ≡ true → length (waiting_after judging q n waiting) ≤ most_waiting
        → compared_from judging hash q nodes digests (suc turns) p (place ∷ waiting) ≡ compared_from judging hash q nodes digests turns (past p (string_in digests n)) (waiting_after judging q n waiting)
    compare_on same few =
        compare_same same ∙ onward_at (guard (leb (length (waiting_after judging q n waiting)) most_waiting) StackFull) tt _ (guard_at _ StackFull (le-leb _ _ few))

    -- or with other bytes
    pub compare_differs : goes_on_with p (string_in digests n) ≡ false → compared_from judging hash q nodes digests (suc turns) p (place ∷ waiting) ≡ Ok (differs_at judging hash place (string_in digests n) p)
    compare_differs apart = here ∙ choose_no (goes_on_with p (string_in digests n)) _ _ apart

    -- a step that was accepted and goes on
    pub compared_on : (answer : Comparison) → goes_on_with p (string_in digests n) ≡ true → compared_from judging hash q nodes digests (suc turns) p (place ∷ waiting) ≡ Ok answer
        → (length (waiting_after judging q n waiting) ≤ most_waiting) × (compared_from judging hash q nodes digests turns (past p (string_in digests n)) (waiting_after judging q n waiting) ≡ Ok answer)
    compared_on answer same h =
        let a = onward_ok (guard (leb (length (waiting_after judging q n waiting)) most_waiting) StackFull) (λ _. compared_from judging hash q nodes digests turns (past p (string_in digests n)) (waiting_after judging q n waiting)) answer (sym (compare_same same) ∙ h) in
        (leb-true _ _ (guard_ok _ _ _ a.1), a.2)
