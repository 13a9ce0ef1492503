-- One step of a prove.
use Rattle.std.proofs.Common.{◌≡◌, ℕ, suc, ◌-◌, ◌≤◌, leb, List, [], ◌∷◌, length, Some, Ok, sym, refl, ap, ◌∙◌, subst}
use Rattle.std.specs.List.{slice_get}
use Rattle.std.proofs.lemmas.Bool.{leb-true, le-leb}
use Rattle.refusal.specs.declared.Refusal.{Refusal}
use Rattle.refusal.specs.declared.Refusal.TheVariants.{ProofBufferFull, StackFull}
use Rattle.reader.specs.Reading.{map_ok, onward}
use Rattle.search.specs.Node.{Node}
use Rattle.search.specs.Judging.{Judging}
use Rattle.search.specs.Figure.{Sound}
use Rattle.search.specs.Honest.{string_in}
use Rattle.search.specs.Walk.{waiting_after, most_waiting}
use Rattle.calls.specs.Chain.{guard}
use Rattle.calls.specs.Sheets.{sound_at}
use Rattle.calls.specs.Proving.{node_proved, proved_from}
use Rattle.calls.proofs.Chains.{onward_ok, onward_at, map_ok_ok, guard_ok, guard_at, ok_same}
use Rattle.calls.proofs.Strings.{sound_there, there_from_sound}

module _ {Q : Type 0} (judging : Judging Q) (q : Q) (nodes : List Node) (digests : List (List ℕ)) where
  -- what a node that is proved next passed
  pub record NodeTests (room place : ℕ) (waiting : List ℕ) (n : Node) : Type 0 where
    pub there : slice_get nodes place ≡ Some n
    pub fits : length (string_in digests n) ≤ room
    pub few : length (waiting_after judging q n waiting) ≤ most_waiting

  pub node_tests : (room place : ℕ) (waiting : List ℕ) (n : Node) → node_proved judging q nodes digests room place waiting ≡ Ok n → NodeTests room place waiting n
  node_tests room place waiting n h =
      let a = onward_ok (sound_at judging nodes place) _ n h in
      let b = onward_ok (guard (leb (length (string_in digests a.0)) room) ProofBufferFull) _ n a.2 in
      let c = onward_ok (guard (leb (length (waiting_after judging q a.0 waiting)) most_waiting) StackFull) (λ _. Ok a.0) n b.2 in
      subst (NodeTests room place waiting) (ok_same {E = Refusal} a.0 n c.2) (record {
        there = there_from_sound judging nodes place a.0 a.1;
        fits = leb-true _ _ (guard_ok _ _ _ b.1);
        few = leb-true _ _ (guard_ok _ _ _ c.1);
      })

  pub node_proved_lem : (room place : ℕ) (waiting : List ℕ) (n : Node) → Sound judging place n → NodeTests room place waiting n → node_proved judging q nodes digests room place waiting ≡ Ok n
  node_proved_lem room place waiting n sound tests =
      onward_at (sound_at judging nodes place) n _ (sound_there judging nodes place n tests.there sound)
      ∙ onward_at (guard (leb (length (string_in digests n)) room) ProofBufferFull) tt _ (guard_at _ ProofBufferFull (le-leb _ _ tests.fits))
      ∙ onward_at (guard (leb (length (waiting_after judging q n waiting)) most_waiting) StackFull) tt _ (guard_at _ StackFull (le-leb _ _ tests.few))

  pub prove_end : (turns room : ℕ) → proved_from judging q nodes digests (suc turns) room [] ≡ Ok []
  unfolding proved_from
  prove_end turns room = refl

  pub prove_step : (turns room place : ℕ) (waiting : List ℕ) → proved_from judging q nodes digests (suc turns) room (place ∷ waiting)
      ≡ onward (node_proved judging q nodes digests room place waiting) (λ n. map_ok (λ strings. string_in digests n ∷ strings) (proved_from judging q nodes digests turns (room - length (string_in digests n)) (waiting_after judging q n waiting)))
  unfolding proved_from
  prove_step turns room place waiting = refl

  -- an accepted step: the node, what it passed, and the strings after its own
  pub record ProveStep (turns room place : ℕ) (waiting : List ℕ) (strings : List (List ℕ)) : Type 0 where
    pub n : Node
    pub tests : NodeTests room place waiting n
    pub others : List (List ℕ)
    pub later : proved_from judging q nodes digests turns (room - length (string_in digests n)) (waiting_after judging q n waiting) ≡ Ok others
    pub are : strings ≡ string_in digests n ∷ others

  pub proved_step : (turns room place : ℕ) (waiting : List ℕ) (strings : List (List ℕ)) → proved_from judging q nodes digests (suc turns) room (place ∷ waiting) ≡ Ok strings → ProveStep turns room place waiting strings
  proved_step turns room place waiting strings h =
      let a = onward_ok (node_proved judging q nodes digests room place waiting) _ strings (sym (prove_step turns room place waiting) ∙ h) in
      let b = map_ok_ok (λ (t : List (List ℕ)). string_in digests a.0 ∷ t) (proved_from judging q nodes digests turns (room - length (string_in digests a.0)) (waiting_after judging q a.0 waiting)) strings a.2 in
      record { n = a.0; tests = node_tests room place waiting a.0 a.1; others = b.0; later = b.1; are = b.2 }

  pub prove_on : (turns room place : ℕ) (waiting : List ℕ) (n : Node) (others : List (List ℕ)) → Sound judging place n → NodeTests room place waiting n
      → proved_from judging q nodes digests turns (room - length (string_in digests n)) (waiting_after judging q n waiting) ≡ Ok others
      → proved_from judging q nodes digests (suc turns) room (place ∷ waiting) ≡ Ok (string_in digests n ∷ others)
  prove_on turns room place waiting n others sound tests later =
      prove_step turns room place waiting
      ∙ onward_at (node_proved judging q nodes digests room place waiting) n _ (node_proved_lem room place waiting n sound tests)
      ∙ ap (map_ok (λ (t : List (List ℕ)). string_in digests n ∷ t)) later
