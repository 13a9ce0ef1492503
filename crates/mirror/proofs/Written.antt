-- The strings written so far, and those still to write.
use Rattle.std.proofs.Common.{◌≡◌, ℕ, zero, suc, ◌+◌, ◌-◌, ◌<◌, ◌≤◌, List, [], ◌∷◌, ◌++◌, length, take, drop, Ok, Err, Result, sym, refl, ap, ◌∙◌, subst, append_assoc, append-nil, arith, length-append}
use Rattle.std.proofs.lemmas.List.{take_at, length-take-le}
use Rattle.refusal.specs.declared.Refusal.{Refusal}
use Rattle.node.specs.Writing.{put_at}
use Rattle.node.proofs.Joining.{joined_append}
use Rattle.reader.specs.Reading.{onward, map_ok}
use Rattle.search.specs.Node.{Node}
use Rattle.search.specs.Judging.{Judging}
use Rattle.search.specs.Walk.{waiting_after}
use Rattle.search.specs.Honest.{string_in}
use Rattle.calls.specs.Proving.{node_proved, proved_from, all_bytes}
use Rattle.mirror.specs.Steps.{end_of, IsWritten}
use Rattle.calls.proofs.Chains.{onward_at, map_ok_ok}
use Rattle.calls.proofs.ProveSteps.{node_tests, prove_end, prove_step}
use Rattle.calls.proofs.Strings.{string_some}
use Rattle.mirror.proofs.Chains.{mapped_err, mapped_twice}

step_on : {Q : Type 0} (judging : Judging Q) (question : Q) (nodes : List Node) (digests : List (List ℕ)) (turns room place : ℕ) (waiting : List ℕ) (node : Node)
    → node_proved judging question nodes digests room place waiting ≡ Ok node
    → proved_from judging question nodes digests (suc turns) room (place ∷ waiting)
    ≡ map_ok (λ strings. string_in digests node ∷ strings) (proved_from judging question nodes digests turns (room - length (string_in digests node)) (waiting_after judging question node waiting))
step_on judging question nodes digests turns room place waiting node h =
    prove_step judging question nodes digests turns room place waiting ∙ onward_at (node_proved judging question nodes digests room place waiting) node _ h

step_off : {Q : Type 0} (judging : Judging Q) (question : Q) (nodes : List Node) (digests : List (List ℕ)) (turns room place : ℕ) (waiting : List ℕ) (e : Refusal)
    → node_proved judging question nodes digests room place waiting ≡ Err e
    → proved_from judging question nodes digests (suc turns) room (place ∷ waiting) ≡ Err e
unfolding proved_from
step_off judging question nodes digests turns room place waiting e h =
    ap (λ m. onward m (λ n. map_ok (λ strings. string_in digests n ∷ strings)
    (proved_from judging question nodes digests turns (room - length (string_in digests n)) (waiting_after judging question n waiting)))) h

-- Strings that are written, then those of what waits: together all strings from where the traversal began.
pub record WrittenSoFar {Q : Type 0} (judging : Judging Q) (question : Q) (nodes : List Node) (digests : List (List ℕ)) (begun : List ℕ) (room : ℕ) (waiting : List ℕ) (strings bytes : ℕ) (buffer : List ℕ) : Type 0 where
  pub done : List (List ℕ)
  pub turns : ℕ
  pub enough : room - bytes < turns
  pub within : bytes ≤ room
  pub few : strings ≤ bytes
  pub counted : strings ≡ length done
  pub summed : bytes ≡ length (all_bytes done)
  pub stands : take bytes buffer ≡ all_bytes done
  pub goes_on : proved_from judging question nodes digests (suc room) room begun ≡ map_ok (λ rest. done ++ rest) (proved_from judging question nodes digests turns (room - bytes) waiting)

mapped_alike : {X Y E : Type 0} (f g : X → Y) → ((x : X) → f x ≡ g x) → (m : Result X E) → map_ok f m ≡ map_ok g m
mapped_alike f g same (Ok x) = ap Ok (same x)
mapped_alike f g same (Err e) = refl

mapped_id : {X E : Type 0} (m : Result X E) → m ≡ map_ok (λ x. x) m
mapped_id (Ok x) = refl
mapped_id (Err e) = refl

pub none_so_far : {Q : Type 0} (judging : Judging Q) (question : Q) (nodes : List Node) (digests : List (List ℕ)) (begun waiting buffer : List ℕ) (room : ℕ) → waiting ≡ begun
    → WrittenSoFar judging question nodes digests begun room waiting 0 0 buffer
none_so_far judging question nodes digests begun waiting buffer room same = record {
  done = [];
  turns = suc room;
  enough = omega arith;
  within = omega arith;
  few = omega arith;
  counted = refl;
  summed = refl;
  stands = refl;
  goes_on = mapped_id (proved_from judging question nodes digests (suc room) room begun)
      ∙ ap (λ w. map_ok (λ rest. [] ++ rest) (proved_from judging question nodes digests (suc room) room w)) (sym same)
      ∙ ap (λ n. map_ok (λ rest. [] ++ rest) (proved_from judging question nodes digests (suc room) n waiting)) (omega arith);
}

pub one_more_turn : (turns room : ℕ) → room < turns → (t : ℕ) × (turns ≡ suc t)
one_more_turn zero room h = absurd (omega arith)
one_more_turn (suc t) room h = (t, refl)

shown : (buffer front string : List ℕ) (at : ℕ) → at ≤ length buffer → take at buffer ≡ front → take (at + length string) (put_at buffer at string) ≡ front ++ string
shown buffer front string at within front-is =
    let long : length (take at buffer ++ string) ≡ at + length string = length-append (take at buffer) string ∙ ap (λ n. n + length string) (length-take-le at buffer within) in
    ap (take (at + length string)) (sym (append_assoc (take at buffer) string (drop (at + length string) buffer)))
    ∙ take_at (take at buffer ++ string) (drop (at + length string) buffer) (at + length string) long
    ∙ ap (λ f. f ++ string) front-is

sums : (a b n : ℕ) → a - (b + n) ≡ a - b - n
sums a b n = omega arith

pub one_more : {Q : Type 0} (judging : Judging Q) (question : Q) (nodes : List Node) (digests : List (List ℕ)) (begun : List ℕ) (room place : ℕ) (all waiting then buffer buffer_then : List ℕ) (strings bytes : ℕ) (node : Node)
    → WrittenSoFar judging question nodes digests begun room all strings bytes buffer → all ≡ place ∷ waiting → length buffer ≡ room
    → node_proved judging question nodes digests (room - bytes) place waiting ≡ Ok node
    → IsWritten judging question digests node bytes waiting then buffer buffer_then
    → WrittenSoFar judging question nodes digests begun room then (strings + 1) (end_of digests bytes node) buffer_then
one_more judging question nodes digests begun room place all waiting then buffer buffer_then strings bytes node so_far top long proved written =
    let string = string_in digests node in
    let done = so_far.done in
    let fits = (node_tests judging question nodes digests (room - bytes) place waiting node proved).fits in
    let some = string_some digests node in
    let turn = one_more_turn so_far.turns (room - bytes) so_far.enough in
    let join : all_bytes (done ++ string ∷ []) ≡ all_bytes done ++ string =
    joined_append (λ s. s) done (string ∷ []) ∙ ap (λ s. all_bytes done ++ s) (append-nil string) in
    let rest = proved_from judging question nodes digests turn.0 (room - bytes - length string) (waiting_after judging question node waiting) in
    record {
      done = done ++ string ∷ [];
      turns = turn.0;
      enough = omega (arith, so_far.enough, turn.1, fits, some, so_far.within);
      within = omega (arith, fits, so_far.within);
      few = omega (arith, so_far.few, some);
      counted = omega (arith, so_far.counted, length-append done (string ∷ []));
      summed = ap (λ n. n + length string) so_far.summed ∙ sym (length-append (all_bytes done) string) ∙ ap length (sym join);
      stands = ap (take (bytes + length string)) written.stands
          ∙ shown buffer (all_bytes done) string bytes (omega (arith, so_far.within, long)) so_far.stands
          ∙ sym join;
      goes_on = so_far.goes_on
          ∙ ap (λ t. map_ok (λ more. done ++ more) (proved_from judging question nodes digests t (room - bytes) all)) turn.1
          ∙ ap (λ w. map_ok (λ more. done ++ more) (proved_from judging question nodes digests (suc turn.0) (room - bytes) w)) top
          ∙ ap (map_ok (λ more. done ++ more)) (step_on judging question nodes digests turn.0 (room - bytes) place waiting node proved)
          ∙ mapped_twice (λ more. string ∷ more) (λ more. done ++ more) rest
          ∙ mapped_alike (λ more. done ++ string ∷ more) (λ more. (done ++ string ∷ []) ++ more) (λ more. sym (append_assoc done (string ∷ []) more)) rest
          ∙ ap (λ n. map_ok (λ more. (done ++ string ∷ []) ++ more) (proved_from judging question nodes digests turn.0 n (waiting_after judging question node waiting))) (sym (sums room bytes (length string)))
          ∙ ap (λ w. map_ok (λ more. (done ++ string ∷ []) ++ more) (proved_from judging question nodes digests turn.0 (room - end_of digests bytes node) w)) (sym written.waits);
    }

pub stops : {Q : Type 0} (judging : Judging Q) (question : Q) (nodes : List Node) (digests : List (List ℕ)) (begun : List ℕ) (room place : ℕ) (all waiting buffer : List ℕ) (strings bytes : ℕ) (e : Refusal)
    → WrittenSoFar judging question nodes digests begun room all strings bytes buffer → all ≡ place ∷ waiting
    → node_proved judging question nodes digests (room - bytes) place waiting ≡ Err e
    → proved_from judging question nodes digests (suc room) room begun ≡ Err e
stops judging question nodes digests begun room place all waiting buffer strings bytes e so_far top refused =
    let done = so_far.done in
    let turn = one_more_turn so_far.turns (room - bytes) so_far.enough in
    so_far.goes_on
    ∙ ap (λ t. map_ok (λ more. done ++ more) (proved_from judging question nodes digests t (room - bytes) all)) turn.1
    ∙ ap (λ w. map_ok (λ more. done ++ more) (proved_from judging question nodes digests (suc turn.0) (room - bytes) w)) top
    ∙ ap (map_ok (λ more. done ++ more)) (step_off judging question nodes digests turn.0 (room - bytes) place waiting e refused)

pub ends : {Q : Type 0} (judging : Judging Q) (question : Q) (nodes : List Node) (digests : List (List ℕ)) (begun : List ℕ) (room : ℕ) (all buffer : List ℕ) (strings bytes : ℕ)
    → (so_far : WrittenSoFar judging question nodes digests begun room all strings bytes buffer) → all ≡ []
    → proved_from judging question nodes digests (suc room) room begun ≡ Ok so_far.done
ends judging question nodes digests begun room all buffer strings bytes so_far top =
    let done = so_far.done in
    let turn = one_more_turn so_far.turns (room - bytes) so_far.enough in
    so_far.goes_on
    ∙ ap (λ t. map_ok (λ more. done ++ more) (proved_from judging question nodes digests t (room - bytes) all)) turn.1
    ∙ ap (λ w. map_ok (λ more. done ++ more) (proved_from judging question nodes digests (suc turn.0) (room - bytes) w)) top
    ∙ ap (map_ok (λ more. done ++ more)) (prove_end judging question nodes digests turn.0 (room - bytes))
    ∙ ap Ok (append-nil done)

-- A turn: the node at the newest place is written, and the rest goes on.
pub record Turned {Q : Type 0} (judging : Judging Q) (question : Q) (nodes : List Node) (digests : List (List ℕ)) (begun : List ℕ) (room : ℕ) (waiting : List ℕ) (strings bytes : ℕ) (buffer : List ℕ) (before : ℕ) : Type 0 where
  pub so_far : WrittenSoFar judging question nodes digests begun room waiting strings bytes buffer
  pub later : before + 4 ≤ bytes

pub goes_on_lem : {Q : Type 0} (judging : Judging Q) (question : Q) (nodes : List Node) (digests : List (List ℕ)) (begun : List ℕ) (room place : ℕ) (all waiting then buffer buffer_then : List ℕ) (strings bytes end : ℕ)
    → WrittenSoFar judging question nodes digests begun room all strings bytes buffer → all ≡ place ∷ waiting → length buffer ≡ room
    → Ok end ≡ map_ok (end_of digests bytes) (node_proved judging question nodes digests (length buffer - bytes) place waiting)
    → ((node : Node) → node_proved judging question nodes digests (length buffer - bytes) place waiting ≡ Ok node → IsWritten judging question digests node bytes waiting then buffer buffer_then)
    → Turned judging question nodes digests begun room then (strings + 1) end buffer_then bytes
goes_on_lem judging question nodes digests begun room place all waiting then buffer buffer_then strings bytes end so_far top long answer leaves =
    let m = map_ok_ok (end_of digests bytes) (node_proved judging question nodes digests (length buffer - bytes) place waiting) end (sym answer) in
    let node = m.0 in
    let proved = subst (λ n. node_proved judging question nodes digests (n - bytes) place waiting ≡ Ok node) long m.1 in
    subst (λ n. Turned judging question nodes digests begun room then (strings + 1) n buffer_then bytes) (sym m.2)
    (record {
      so_far = one_more judging question nodes digests begun room place all waiting then buffer buffer_then strings bytes node so_far top long proved (leaves node m.1);
      later = omega (arith, string_some digests node);
    })

pub turned_off : {Q : Type 0} (judging : Judging Q) (question : Q) (nodes : List Node) (digests : List (List ℕ)) (begun : List ℕ) (room place : ℕ) (all waiting buffer : List ℕ) (strings bytes : ℕ) (e : Refusal)
    → WrittenSoFar judging question nodes digests begun room all strings bytes buffer → all ≡ place ∷ waiting → length buffer ≡ room
    → Err e ≡ map_ok (end_of digests bytes) (node_proved judging question nodes digests (length buffer - bytes) place waiting)
    → proved_from judging question nodes digests (suc room) room begun ≡ Err e
turned_off judging question nodes digests begun room place all waiting buffer strings bytes e so_far top long answer =
    let refused = mapped_err (end_of digests bytes) (node_proved judging question nodes digests (length buffer - bytes) place waiting) e answer in
    stops judging question nodes digests begun room place all waiting buffer strings bytes e so_far top
    (subst (λ n. node_proved judging question nodes digests (n - bytes) place waiting ≡ Err e) long refused)
