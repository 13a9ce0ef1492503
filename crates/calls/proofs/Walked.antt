-- What a prove writes is the strings of a walk, and of the walk of a figure the honest proof.
use Rattle.std.proofs.Common.{◌≡◌, ℕ, zero, suc, ◌-◌, ◌<◌, ◌≤◌, true, ltb, leb, List, [], ◌∷◌, ◌++◌, map, length, take, Ok, sym, refl, ap, ◌∙◌, subst, arith, length-append}
use Rattle.std.proofs.lemmas.List.{length-map, length-take-le}
use Rattle.std.proofs.lemmas.Bool.{leb-true, and_parts}
use Rattle.refusal.specs.declared.Refusal.{Refusal}
use Rattle.refusal.specs.declared.Refusal.TheVariants.{QuestionOutOfBounds, SheetUnsound}
use Rattle.reader.specs.Reading.{map_ok}
use Rattle.search.specs.declared.sheet.SheetRecord.{SheetRecord}
use Rattle.search.specs.Node.{Node}
use Rattle.search.specs.Judging.{Judging}
use Rattle.search.specs.Figure.{IsFigure, root_of}
use Rattle.search.specs.Sheet.{usable}
use Rattle.search.specs.Honest.{string_in, strings_of, digests_of}
use Rattle.search.specs.Walk.{Walk, ended, taken, most_waiting, waiting_after}
use Rattle.calls.specs.Chain.{guard}
use Rattle.calls.specs.Sheets.{node_in, nodes_in, digests_on, is_count}
use Rattle.calls.specs.Proving.{proved_from, room_in, proved_strings, all_bytes, buffer_with, zeros_after}
use Rattle.calls.specs.Meaning.{ProofsAreWalks, HonestProofsAreWritten}
use Rattle.calls.proofs.Chains.{onward_ok, onward_at, guard_ok, guard_at, ok_same}
use Rattle.calls.proofs.Strings.{string_some}
use Rattle.calls.proofs.ProveSteps.{proved_step, prove_end, prove_on}

-- the root of the nodes that a sheet shows is the last counted record
pub root_counted : {Q : Type 0} (judging : Judging Q) (sheet : List SheetRecord) (count : ℕ) → is_count sheet count ≡ true → root_of (nodes_in judging sheet count) ≡ count - 1
root_counted judging sheet count h =
    let low = leb-true count (usable sheet) (and_parts (ltb 0 count) (leb count (usable sheet)) h).1 in
    omega (arith, length-map (take count sheet) (node_in judging), length-take-le count sheet (omega arith))

module _ {Q : Type 0} (judging : Judging Q) (q : Q) (nodes : List Node) (digests : List (List ℕ)) where
  record Walked (waiting : List ℕ) (strings : List (List ℕ)) : Type 0 where
    visited : List Node
    emitted : List ℕ
    walk : Walk judging q most_waiting nodes waiting visited emitted
    are : strings ≡ map (string_in digests) visited

  walked : (turns room : ℕ) (waiting : List ℕ) (strings : List (List ℕ)) → room < turns → proved_from judging q nodes digests turns room waiting ≡ Ok strings → Walked waiting strings
  walked zero room waiting strings enough h = absurd (omega arith)
  walked (suc turns) room [] strings enough h =
      record { visited = []; emitted = []; walk = ended; are = ok_same {E = Refusal} strings [] (sym h ∙ prove_end judging q nodes digests turns room) }
  walked (suc turns) room (place ∷ waiting) strings enough h =
      let step = proved_step judging q nodes digests turns room place waiting strings h in
      let rest = walked turns (room - length (string_in digests step.n)) (waiting_after judging q step.n waiting) step.others (omega (arith, string_some digests step.n, step.tests.fits)) step.later in
      record {
        visited = step.n ∷ rest.visited;
        emitted = _;
        walk = taken step.tests.there step.tests.few rest.walk;
        are = step.are ∙ ap (λ (t : List (List ℕ)). string_in digests step.n ∷ t) rest.are;
      }

pub proofs_are_walks_lem : {Q : Type 0} (judging : Judging Q) → ProofsAreWalks judging
proofs_are_walks_lem judging sheet count q buffer strings h =
    let a = onward_ok (guard (judging.is_within_bounds q) QuestionOutOfBounds) _ strings h in
    let b = onward_ok (guard (is_count sheet count) SheetUnsound) _ strings a.2 in
    let root = sym (root_counted judging sheet count (guard_ok _ _ _ b.1)) in
    let all = walked judging q (nodes_in judging sheet count) (digests_on sheet count) (suc (room_in buffer)) (room_in buffer) ((count - 1) ∷ []) strings (omega arith) b.2 in
    record {
      visited = all.visited;
      emitted = all.emitted;
      walk = subst (λ (r : ℕ). Walk judging q most_waiting (nodes_in judging sheet count) (r ∷ []) all.visited all.emitted) root all.walk;
      are = all.are;
    }

-- strings, joined
all_bytes_lem : (digests : List (List ℕ)) (visited : List Node) → all_bytes (map (string_in digests) visited) ≡ strings_of digests visited
all_bytes_lem digests [] = refl
all_bytes_lem digests (n ∷ visited) = ap (λ (t : List ℕ). string_in digests n ++ t) (all_bytes_lem digests visited)

module _ {Q : Type 0} (judging : Judging Q) (q : Q) (figure : List Node) (digests : List (List ℕ)) (is : IsFigure judging figure) where
  -- with room for all its strings a walk of a figure is proved
  written : (waiting : List ℕ) (visited : List Node) (emitted : List ℕ) → Walk judging q most_waiting figure waiting visited emitted
      → (turns room : ℕ) → room < turns → length (strings_of digests visited) ≤ room → proved_from judging q figure digests turns room waiting ≡ Ok (map (string_in digests) visited)
  written _ _ _ ended zero room enough fits = absurd (omega arith)
  written _ _ _ ended (suc turns) room enough fits = prove_end judging q figure digests turns room
  written _ _ _ (taken at few rest) zero room enough fits = absurd (omega arith)
  written _ _ _ (taken {place} {waiting} {node = n} {visited} {emitted} at few rest) (suc turns) room enough fits =
      let long = length-append (string_in digests n) (strings_of digests visited) in
      let later = written _ _ _ rest turns (room - length (string_in digests n)) (omega (arith, string_some digests n, long)) (omega (arith, long)) in
      prove_on judging q figure digests turns room place waiting n (map (string_in digests) visited) (is.sound place n at) (record { there = at; fits = omega (arith, long); few = few }) later

pub honest_proofs_are_written_lem : {Q : Type 0} (judging : Judging Q) → HonestProofsAreWritten judging
honest_proofs_are_written_lem judging hash figure sheet q buffer proof well are is shows within honest short fits =
    let count = length figure in
    let digests = digests_of hash figure in
    let strings = map (string_in digests) honest.visited in
    let bytes : all_bytes strings ≡ proof = all_bytes_lem digests honest.visited ∙ sym honest.is in
    let same : proved_strings judging sheet count q buffer ≡ proved_from judging q figure digests (suc (room_in buffer)) (room_in buffer) (root_of figure ∷ []) =
    onward_at (guard (judging.is_within_bounds q) QuestionOutOfBounds) tt _ (guard_at (judging.is_within_bounds q) QuestionOutOfBounds within)
    ∙ onward_at (guard (is_count sheet count) SheetUnsound) tt _ (guard_at (is_count sheet count) SheetUnsound shows.counted)
    ∙ ap (λ (t : List Node). proved_from judging q t (digests_on sheet count) (suc (room_in buffer)) (room_in buffer) (root_of figure ∷ [])) shows.nodes
    ∙ ap (λ (t : List (List ℕ)). proved_from judging q figure t (suc (room_in buffer)) (room_in buffer) (root_of figure ∷ [])) shows.digests in
    let done : proved_strings judging sheet count q buffer ≡ Ok strings =
    same ∙ written judging q figure digests is (root_of figure ∷ []) honest.visited honest.emitted honest.walk (suc (room_in buffer)) (room_in buffer) (omega arith) (omega (arith, ap length honest.is, short, fits)) in
    record {
      strings = length strings;
      answer = ap (map_ok (λ (t : List (List ℕ)). record { strings = length t; bytes = length (all_bytes t) })) done ∙ ap (λ (t : List ℕ). Ok (record { strings = length strings; bytes = length t })) bytes;
      after = ap (buffer_with buffer) done ∙ ap (zeros_after buffer) bytes;
    }
