-- What is compared so far, and what is still to compare.
use Rattle.std.proofs.Common.{ControlFlow, Continue, Break, ◌≡◌, ℕ, suc, ◌+◌, ◌-◌, ◌<◌, ◌≤◌, Bool, true, false, cond, ltb, leb, List, [], ◌∷◌, length, drop, Ok, Err, Result, sym, refl, ap, ◌∙◌, arith}
use Rattle.std.proofs.lemmas.List.{length-map, length-take, length-drop}
use Rattle.std.proofs.lemmas.Bool.{le-leb, lt-leb}
use Rattle.std.proofs.lemmas.Slice.Eq.{bytes_eq-Decides}
use Rattle.refusal.specs.declared.Refusal.{Refusal}
use Rattle.refusal.specs.declared.Refusal.TheVariants.{StackFull}
use Rattle.reader.specs.Parts.{part}
use Rattle.reader.specs.Reading.{Position, onward}
use Rattle.search.specs.declared.sheet.SheetRecord.{SheetRecord}
use Rattle.search.specs.Node.{Node}
use Rattle.search.specs.Judging.{Judging}
use Rattle.search.specs.Figure.{root_of}
use Rattle.search.specs.Walk.{most_waiting, waiting_after}
use Rattle.search.specs.Honest.{string_in}
use Rattle.calls.specs.declared.outcomes.Comparison.{Comparison}
use Rattle.calls.specs.Chain.{choose, guard}
use Rattle.calls.specs.declared.outcomes.Comparison.TheVariants.{Same, Difference}
use Rattle.calls.specs.Sheets.{node_in, nodes_of, sound_at}
use Rattle.calls.specs.Comparing.{compared_from, differs_at, differs_at_end, goes_on_with, past}
use Rattle.mirror.specs.Comparisons.{node_compared}
use Rattle.mirror.specs.Positions.{position_at}
use Rattle.mirror.specs.Steps.{end_of}
use Rattle.calls.proofs.Chains.{ok_same, onward_at, onward_ok}
use Rattle.calls.proofs.CompareSteps.{compare_end, compare_same}
use Rattle.calls.proofs.Strings.{string_some}
use Rattle.mirror.proofs.Written.{one_more_turn}

-- No more wait than may.
abbrev allowed : List ℕ → Result (Unit {0}) Refusal
allowed waiting = guard (leb (length waiting) most_waiting) StackFull

pub goes_not_differs : (end : ℕ) (d : Comparison) → ◌≡◌ {A = ControlFlow Comparison ℕ} (Break d) (Continue end) → ⊥
goes_not_differs end d h = let z : ◌≡◌ {A = ℕ} 0 1 = cc in omega arith

goes_same : (a b : ℕ) → ◌≡◌ {A = ControlFlow Comparison ℕ} (Continue a) (Continue b) → a ≡ b
goes_same a b h = cc

-- The proof goes on with the string of a sound node, and the ways that it names may wait.
pub record GoesOnWith {Q : Type 0} (judging : Judging Q) (question : Q) (nodes : List Node) (digests : List (List ℕ)) (place : ℕ) (p : Position) (waiting : List ℕ) (end : ℕ) : Type 0 where
  pub node : Node
  pub sound : sound_at judging nodes place ≡ Ok node
  pub same : goes_on_with p (string_in digests node) ≡ true
  pub may : allowed (waiting_after judging question node waiting) ≡ Ok tt
  pub ends : end ≡ end_of digests p.at node

pub went_on : {Q : Type 0} (judging : Judging Q) (hash : List ℕ → List ℕ) (question : Q) (nodes : List Node) (digests : List (List ℕ)) (place : ℕ) (p : Position) (waiting : List ℕ) (end : ℕ)
    → node_compared judging hash question nodes digests place p waiting ≡ Ok (Continue end) → GoesOnWith judging question nodes digests place p waiting end
went_on judging hash question nodes digests place p waiting end h =
    let further : Node → Result (ControlFlow Comparison ℕ) Refusal = λ node.
    choose (goes_on_with p (string_in digests node))
    (λ _. onward (allowed (waiting_after judging question node waiting)) (λ _. Ok (Continue (end_of digests p.at node))))
    (λ _. Ok (Break (differs_at judging hash place (string_in digests node) p))) in
    let sound = onward_ok (sound_at judging nodes place) further (Continue end) h in
    go sound.0 sound.1 (goes_on_with p (string_in digests sound.0)) refl sound.2
  where
    go : (node : Node) → sound_at judging nodes place ≡ Ok node → (b : Bool) → goes_on_with p (string_in digests node) ≡ b
        → choose b (λ _. onward (allowed (waiting_after judging question node waiting)) (λ _. Ok (Continue (end_of digests p.at node)))) (λ _. Ok (Break (differs_at judging hash place (string_in digests node) p))) ≡ Ok (Continue end)
        → GoesOnWith judging question nodes digests place p waiting end
    go node is true e h =
        let may = onward_ok (allowed (waiting_after judging question node waiting)) (λ _. Ok (Continue (end_of digests p.at node))) (Continue end) h in
        record { node = node; sound = is; same = e; may = may.1; ends = sym (goes_same (end_of digests p.at node) end (ok_same {E = Refusal} _ _ may.2)) }
    go node is false e h = absurd (goes_not_differs end _ (ok_same {E = Refusal} _ _ h))

step_on : {Q : Type 0} (judging : Judging Q) (hash : List ℕ → List ℕ) (question : Q) (nodes : List Node) (digests : List (List ℕ)) (turns place : ℕ) (p : Position) (waiting : List ℕ) (end : ℕ)
    → (on : GoesOnWith judging question nodes digests place p waiting end)
    → compared_from judging hash question nodes digests (suc turns) p (place ∷ waiting)
    ≡ compared_from judging hash question nodes digests turns (past p (string_in digests on.node)) (waiting_after judging question on.node waiting)
step_on judging hash question nodes digests turns place p waiting end on =
    compare_same judging hash question nodes digests turns p place waiting on.node on.sound on.same
    ∙ onward_at (allowed (waiting_after judging question on.node waiting)) tt _ on.may

-- where a node answers, so does the whole
pub answer_of : Result (ControlFlow Comparison ℕ) Refusal → Result Comparison Refusal → Result Comparison Refusal
answer_of (Ok (Continue end)) rest = rest
answer_of (Ok (Break d)) rest = Ok d
answer_of (Err e) rest = Err e

step_answer : {Q : Type 0} (judging : Judging Q) (hash : List ℕ → List ℕ) (question : Q) (nodes : List Node) (digests : List (List ℕ)) (turns place : ℕ) (p : Position) (waiting : List ℕ)
    → (rest : Result Comparison Refusal) × (compared_from judging hash question nodes digests (suc turns) p (place ∷ waiting) ≡ answer_of (node_compared judging hash question nodes digests place p waiting) rest)
unfolding compared_from answer_of
step_answer {Q} judging hash question nodes digests turns place p waiting = at_sound (sound_at judging nodes place)
  where
    from : Node → Result Comparison Refusal
    from n = compared_from judging hash question nodes digests turns (past p (string_in digests n)) (waiting_after judging question n waiting)

    at_guard : (n : Node) (m : Result (Unit {0}) Refusal) → (rest : Result Comparison Refusal)
        × (onward m (λ _. from n) ≡ answer_of (onward m (λ _. Ok (Continue (end_of digests p.at n)))) rest)
    at_guard n (Ok u) = (from n, refl)
    at_guard n (Err e) = (from n, refl)

    at_same : (n : Node) (b : Bool) → (rest : Result Comparison Refusal)
        × (choose b (λ _. onward (allowed (waiting_after judging question n waiting)) (λ _. from n)) (λ _. Ok (differs_at judging hash place (string_in digests n) p))
        ≡ answer_of (choose b (λ _. onward (allowed (waiting_after judging question n waiting)) (λ _. Ok (Continue (end_of digests p.at n)))) (λ _. Ok (Break (differs_at judging hash place (string_in digests n) p)))) rest)
    at_same n true = at_guard n (allowed (waiting_after judging question n waiting))
    at_same n false = (from n, refl)

    at_sound : (m : Result Node Refusal) → (rest : Result Comparison Refusal)
        × (onward m (λ n. choose (goes_on_with p (string_in digests n)) (λ _. onward (allowed (waiting_after judging question n waiting)) (λ _. from n)) (λ _. Ok (differs_at judging hash place (string_in digests n) p)))
        ≡ answer_of (onward m (λ n. choose (goes_on_with p (string_in digests n)) (λ _. onward (allowed (waiting_after judging question n waiting)) (λ _. Ok (Continue (end_of digests p.at n)))) (λ _. Ok (Break (differs_at judging hash place (string_in digests n) p))))) rest)
    at_sound (Ok n) = at_same n (goes_on_with p (string_in digests n))
    at_sound (Err e) = (Err e, refl)

-- The proof is the same up to a place, and the rest is decided by what waits.
pub record ComparedSoFar {Q : Type 0} (judging : Judging Q) (hash : List ℕ → List ℕ) (question : Q) (nodes : List Node) (digests : List (List ℕ)) (begun proof waiting : List ℕ) (at : ℕ) : Type 0 where
  pub turns : ℕ
  pub enough : length proof - at < turns
  pub within : at ≤ length proof
  pub goes_on : compared_from judging hash question nodes digests (suc (length proof)) (position_at proof 0) begun ≡ compared_from judging hash question nodes digests turns (position_at proof at) waiting

pub nothing_so_far : {Q : Type 0} (judging : Judging Q) (hash : List ℕ → List ℕ) (question : Q) (nodes : List Node) (digests : List (List ℕ)) (begun proof waiting : List ℕ) → waiting ≡ begun
    → ComparedSoFar judging hash question nodes digests begun proof waiting 0
nothing_so_far judging hash question nodes digests begun proof waiting same = record {
  turns = suc (length proof);
  enough = omega arith;
  within = omega arith;
  goes_on = ap (compared_from judging hash question nodes digests (suc (length proof)) (position_at proof 0)) (sym same);
}

-- a string that is there ends within the bytes
pub same_within : (proof string : List ℕ) (at : ℕ) → at ≤ length proof → goes_on_with (position_at proof at) string ≡ true → at + length string ≤ length proof
same_within proof string at within same =
    let is = (bytes_eq-Decides (part proof at (length string)) string).0 same in
    let cut = length-take (length string) (drop at proof) in
    omega (arith, ap length is, cut, length-drop at proof)

pub record Turned {Q : Type 0} (judging : Judging Q) (hash : List ℕ → List ℕ) (question : Q) (nodes : List Node) (digests : List (List ℕ)) (begun proof waiting : List ℕ) (before at : ℕ) : Type 0 where
  pub so_far : ComparedSoFar judging hash question nodes digests begun proof waiting at
  pub later : before + 4 ≤ at

pub goes_on_lem : {Q : Type 0} (judging : Judging Q) (hash : List ℕ → List ℕ) (question : Q) (nodes : List Node) (digests : List (List ℕ)) (begun proof : List ℕ) (place : ℕ) (all waiting then : List ℕ) (at end : ℕ)
    → ComparedSoFar judging hash question nodes digests begun proof all at → all ≡ place ∷ waiting
    → node_compared judging hash question nodes digests place (position_at proof at) waiting ≡ Ok (Continue end)
    → ((node : Node) → sound_at judging nodes place ≡ Ok node → then ≡ waiting_after judging question node waiting)
    → Turned judging hash question nodes digests begun proof then at end
goes_on_lem judging hash question nodes digests begun proof place all waiting then at end so_far top is waits =
    let on = went_on judging hash question nodes digests place (position_at proof at) waiting end is in
    let string = string_in digests on.node in
    let some = string_some digests on.node in
    let turn = one_more_turn so_far.turns (length proof - at) so_far.enough in
    let inside = same_within proof string at so_far.within on.same in
    record {
      so_far = record {
        turns = turn.0;
        enough = omega (arith, so_far.enough, turn.1, on.ends, some, inside, so_far.within);
        within = omega (arith, on.ends, inside);
        goes_on = so_far.goes_on
            ∙ ap (λ t. compared_from judging hash question nodes digests t (position_at proof at) all) turn.1
            ∙ ap (λ w. compared_from judging hash question nodes digests (suc turn.0) (position_at proof at) w) top
            ∙ step_on judging hash question nodes digests turn.0 place (position_at proof at) waiting end on
            ∙ (λ i. compared_from judging hash question nodes digests turn.0 (position_at proof (sym on.ends i)) (sym (waits on.node on.sound) i));
      };
      later = omega (arith, on.ends, some);
    }

pub answers : {Q : Type 0} (judging : Judging Q) (hash : List ℕ → List ℕ) (question : Q) (nodes : List Node) (digests : List (List ℕ)) (begun proof : List ℕ) (place : ℕ) (all waiting : List ℕ) (at : ℕ) (outcome : Result (ControlFlow Comparison ℕ) Refusal) (whole : Result Comparison Refusal)
    → ComparedSoFar judging hash question nodes digests begun proof all at → all ≡ place ∷ waiting
    → outcome ≡ node_compared judging hash question nodes digests place (position_at proof at) waiting
    → ((rest : Result Comparison Refusal) → answer_of outcome rest ≡ whole)
    → whole ≡ compared_from judging hash question nodes digests (suc (length proof)) (position_at proof 0) begun
answers judging hash question nodes digests begun proof place all waiting at outcome whole so_far top is answered =
    let turn = one_more_turn so_far.turns (length proof - at) so_far.enough in
    let step = step_answer judging hash question nodes digests turn.0 place (position_at proof at) waiting in
    sym (so_far.goes_on
    ∙ ap (λ t. compared_from judging hash question nodes digests t (position_at proof at) all) turn.1
    ∙ ap (λ w. compared_from judging hash question nodes digests (suc turn.0) (position_at proof at) w) top
    ∙ step.1
    ∙ ap (λ o. answer_of o step.0) (sym is)
    ∙ answered step.0)

pub differing : (d : Comparison) (rest : Result Comparison Refusal) → answer_of (Ok (Break d)) rest ≡ Ok d
unfolding answer_of
differing d rest = refl

pub refusing : (e : Refusal) (rest : Result Comparison Refusal) → answer_of (Err e) rest ≡ Err e
unfolding answer_of
refusing e rest = refl

pub ends : {Q : Type 0} (judging : Judging Q) (hash : List ℕ → List ℕ) (question : Q) (nodes : List Node) (digests : List (List ℕ)) (begun proof all : List ℕ) (at : ℕ)
    → ComparedSoFar judging hash question nodes digests begun proof all at → all ≡ []
    → compared_from judging hash question nodes digests (suc (length proof)) (position_at proof 0) begun ≡ Ok (differs_at_end (root_of nodes) (position_at proof at))
ends judging hash question nodes digests begun proof all at so_far top =
    let turn = one_more_turn so_far.turns (length proof - at) so_far.enough in
    so_far.goes_on
    ∙ ap (λ t. compared_from judging hash question nodes digests t (position_at proof at) all) turn.1
    ∙ ap (λ w. compared_from judging hash question nodes digests (suc turn.0) (position_at proof at) w) top
    ∙ compare_end judging hash question nodes digests turn.0 (position_at proof at)

-- the root is the last of the counted records
pub left_over : {Q : Type 0} (judging : Judging Q) (counted : List SheetRecord) (proof : List ℕ) (at : ℕ) → at < length proof
    → Difference (length counted - 1) at ≡ differs_at_end (root_of (nodes_of judging counted)) (position_at proof at)
left_over judging counted proof at left =
    let some : ltb 0 (length proof - at) ≡ true = le-leb 1 (length proof - at) (omega (arith, left)) in
    sym (λ i. cond (some i) (Difference (length-map counted (node_in judging) i - 1) at) Same)

pub none_left_over : {Q : Type 0} (judging : Judging Q) (counted : List SheetRecord) (proof : List ℕ) (at : ℕ) → length proof ≤ at
    → Same ≡ differs_at_end (root_of (nodes_of judging counted)) (position_at proof at)
none_left_over judging counted proof at none =
    let empty : ltb 0 (length proof - at) ≡ false = lt-leb 1 (length proof - at) (omega (arith, none)) in
    sym (ap (λ b. cond b (Difference (root_of (nodes_of judging counted)) at) Same) empty)
