-- The honest proof is accepted, with the answer.
use Rattle.std.proofs.Common.{◌≡◌, ℕ, zero, suc, ◌+◌, ◌-◌, ◌<◌, ◌≤◌, true, leb, List, [], ◌∷◌, ◌++◌, length, drop, Some, None, Ok, Option, sym, refl, ap, ◌∙◌, arith}
use Rattle.std.specs.List.{slice_get}
use Rattle.std.proofs.lemmas.List.{length-drop}
use Rattle.std.proofs.lemmas.Bool.{lt-ltb}
use Rattle.slices.specs.Order.{sorted}
use Rattle.slices.proofs.SortedLists.{length_sorted}
use Rattle.reader.specs.Reading.{Position, map_ok, opened, finished}
use Rattle.fault.specs.declared.layers.SearchFault.TheVariants.{QuestionOutOfBounds, NoRootAdopted}
use Rattle.fault.specs.Carrying.{from_reader, from_search}
use Rattle.search.specs.Node.{Node}
use Rattle.search.specs.Judging.{Judging, Judgement}
use Rattle.search.specs.Figure.{IsFigure, root_of}
use Rattle.search.specs.Honest.{string_in, strings_of, digests_of, HasDigests}
use Rattle.search.specs.Laws.{JudgesWell}
use Rattle.search.specs.Picks.{ahead, picks}
use Rattle.search.specs.Walk.{Walk, ended, taken, most_waiting, judge_node, waiting_after}
use Rattle.search.proofs.Places.{length_picks}
use Rattle.search.proofs.Walking.{one_result}
use Rattle.calls.specs.Chain.{guard, found}
use Rattle.calls.specs.Checking.{reader_at, has_place_for, how_many_in, judged_as, ProofRead, no_more, checked_from, proof_read, answers_with}
use Rattle.calls.specs.Proving.{zeros_after}
use Rattle.calls.specs.Meaning.{HasSmallNodes, root_of_figure, IsAccepted, HonestProofsAreAccepted}
use Rattle.calls.proofs.Chains.{carried_at, guard_at, found_at}
use Rattle.calls.proofs.Picking.{nth_there, picks_cons}
use Rattle.calls.proofs.Digests.{length_digests, nth_digest}
use Rattle.calls.proofs.Strings.{string_some, rest_after, bytes_taken, read_node, successors_there}
use Rattle.calls.proofs.CheckSteps.{finished_at, opened_at, judged_same, waiting_same, later_same, string_checked_lem, check_end, check_on}

has_place_lem : (held places : ℕ) (o : Option ℕ) → held + how_many_in o ≤ places → has_place_for held places o ≡ true
has_place_lem held places None h = refl
has_place_lem held places (Some x) h = lt-ltb held places (omega arith)

length_ahead : (o : Option ℕ) (xs : List ℕ) → length (ahead o xs) ≡ how_many_in o + length xs
length_ahead None xs = omega arith
length_ahead (Some x) xs = omega arith

-- the root of a figure is there
pub root_there : {Q : Type 0} (judging : Judging Q) (hash : List ℕ → List ℕ) (figure : List Node) → IsFigure judging figure → (digest : List ℕ) × (root_of_figure hash figure ≡ Some digest)
root_there judging hash figure is = nth_there (digests_of hash figure) (root_of figure) (omega (arith, is.some, length_digests hash figure))

module _ {Q : Type 0} (judging : Judging Q) (hash : List ℕ → List ℕ) (q : Q) (figure : List Node) (well : JudgesWell judging) (small : HasSmallNodes judging) (are : HasDigests hash) (is : IsFigure judging figure) (places : ℕ) (proof : List ℕ) where
  abbrev digests : List (List ℕ)
  digests = digests_of hash figure

  abbrev from : ℕ → Position
  from k = record { bytes = proof; at = k }

  abbrev Accepts : ℕ → ℕ → ℕ → ℕ → List (List ℕ) → List ℕ → Type 0
  Accepts turns held step k waiting emitted = (strings : ℕ) × (checked_from judging hash q places turns held step (from k) waiting ≡ Ok (record { emitted = emitted; strings = strings; bytes = length proof }))

  accepts_end : (turns held step k : ℕ) → k ≤ length proof → drop k proof ≡ [] → Accepts (suc turns) held step k [] []
  accepts_end turns held step k within left =
      let none : length proof - k ≡ 0 = omega (arith, length-drop k proof, ap length left) in
      let all : k ≡ length proof = omega arith in
      (0, check_end judging hash q places turns held step (from k) ∙ carried_at (reader_at step) (finished (from k)) tt (λ _. Ok (no_more (from k))) (finished_at (from k) none) ∙ ap (λ (b : ℕ). Ok (record { emitted = []; strings = 0; bytes = b })) all)

  accepts_more : (turns held step k place : ℕ) (waiting : List ℕ) (n : Node) (rest emitted : List ℕ)
      → slice_get figure place ≡ Some n → length (waiting_after judging q n waiting) ≤ most_waiting → drop k proof ≡ string_in digests n ++ rest
      → held + how_many_in (judge_node judging q n).emits ≤ places
      → Accepts turns (held + how_many_in (judge_node judging q n).emits) (suc step) (k + length (string_in digests n)) (picks digests (waiting_after judging q n waiting)) emitted
      → Accepts (suc turns) held step k (picks digests (place ∷ waiting)) (ahead (judge_node judging q n).emits emitted)
  accepts_more turns held step k place waiting n rest emitted at few stands room later =
      let sound = is.sound place n at in
      let read = read_node judging hash figure well small are is place n at (from k) rest stands in
      let seen = read.0 in
      let back = read.1 in
      let judged = judged_same judging q digests n (from k) sound.shape seen back in
      let after = waiting_same judging q digests n (from k) sound.shape seen back (successors_there judging hash figure well small are is place n at) waiting in
      let here = string_checked_lem judging hash q places held (suc step) (from k) (hash (string_in digests n)) (picks digests waiting) n.kind sound.shape seen back.kind_first sound.judgeable.known back.whole (ap hash back.string_is)
      (ap (judging.is_fit n.kind) back.numbers_are ∙ sound.judgeable.fit)
      (ap (λ (j : Judgement). has_place_for held places j.emits) judged ∙ has_place_lem held places (judge_node judging q n).emits room)
      (omega (arith, ap length after, length_picks digests (waiting_after judging q n waiting), few)) in
      let next = later_same judging q digests n (from k) sound.shape seen back (successors_there judging hash figure well small are is place n at) hash places turns held (suc step) waiting in
      let on = check_on judging hash q places turns held step (from k) (hash (string_in digests n)) (picks digests waiting) (judged_as judging q seen) _ here (next ∙ later.1) in (
        suc later.0,
        ap (checked_from judging hash q places (suc turns) held step (from k)) (picks_cons digests place waiting (hash (string_in digests n)) (nth_digest hash judging figure is place n at)) ∙ on
            ∙ ap (λ (j : Judgement). Ok (record { emitted = ahead j.emits emitted; strings = suc later.0; bytes = length proof })) judged,
      )

  -- along the walk, while there are places for what it emits
  accepts : (waiting : List ℕ) (visited : List Node) (emitted : List ℕ) → Walk judging q most_waiting figure waiting visited emitted
      → (turns held step k : ℕ) → length proof - k < turns → k ≤ length proof → drop k proof ≡ strings_of digests visited → held + length emitted ≤ places
      → Accepts turns held step k (picks digests waiting) emitted
  accepts _ _ _ ended zero held step k enough within stand room = absurd (omega arith)
  accepts _ _ _ ended (suc turns) held step k enough within stand room = accepts_end turns held step k within stand
  accepts _ _ _ (taken at few rest) zero held step k enough within stand room = absurd (omega arith)
  accepts _ _ _ (taken {place} {waiting} {node = n} {visited} {emitted} at few rest) (suc turns) held step k enough within stand room =
      let string = string_in digests n in
      let emits = (judge_node judging q n).emits in
      let many = length_ahead emits emitted in
      let read = bytes_taken (from k) string (strings_of digests visited) stand in
      let some = string_some digests n in
      let later = accepts _ _ _ rest turns (held + how_many_in emits) (suc step) (k + length string) (omega arith) (omega arith) (rest_after (from k) string (strings_of digests visited) stand) (omega (arith, many, room)) in
      accepts_more turns held step k place waiting n (strings_of digests visited) emitted at few stand (omega (arith, many, room)) later

-- what a whole proof read makes of the answers
pub accepted_with : {Q : Type 0} (judging : Judging Q) (hash : List ℕ → List ℕ) (root : Option (List ℕ)) (q : Q) (proof answers answer emitted : List ℕ) (strings : ℕ)
    → proof_read judging hash root q proof (length answers) ≡ Ok (record { emitted = emitted; strings = strings; bytes = length proof }) → sorted leb emitted ≡ answer
    → IsAccepted judging hash root q proof answers answer
accepted_with judging hash root q proof answers answer emitted strings h exact =
    let many : length emitted ≡ length answer = sym (length_sorted leb emitted) ∙ ap length exact in
    record {
      strings = strings;
      accepted = ap (map_ok (λ (done : ProofRead). record { numbers = length done.emitted; strings = done.strings; bytes = done.bytes })) h ∙ ap (λ (k : ℕ). Ok (record { numbers = k; strings = strings; bytes = length proof })) many;
      after = ap (answers_with answers) h ∙ ap (zeros_after answers) exact;
    }

pub honest_proofs_are_accepted_lem : {Q : Type 0} (judging : Judging Q) → HonestProofsAreAccepted judging
honest_proofs_are_accepted_lem judging hash figure q proof answers answer well small are is answered within honest short fits =
    let places = length answers in
    let root = root_there judging hash figure is in
    let same = one_result judging q most_waiting figure _ _ _ _ _ honest.walk answered.walk in
    let exact : sorted leb honest.emitted ≡ answer = ap (sorted leb) same.1 ∙ answered.exact in
    let many = sym (length_sorted leb honest.emitted) ∙ ap length exact in
    let all = accepts judging hash q figure well small are is places proof (root_of figure ∷ []) honest.visited honest.emitted honest.walk (suc (length proof)) 0 0 0 (omega arith) (omega arith) honest.is (omega (arith, many, fits)) in
    let read =
    carried_at from_search (found (root_of_figure hash figure) NoRootAdopted) root.0 _ (found_at (root_of_figure hash figure) NoRootAdopted root.0 root.1)
    ∙ carried_at from_search (guard (judging.is_within_bounds q) QuestionOutOfBounds) tt _ (guard_at (judging.is_within_bounds q) QuestionOutOfBounds within)
    ∙ carried_at from_reader (opened proof) (record { bytes = proof; at = 0 }) _ (opened_at proof short)
    ∙ ap (checked_from judging hash q places (suc (length proof)) 0 0 (record { bytes = proof; at = 0 })) (sym (picks_cons (digests_of hash figure) (root_of figure) [] root.0 root.1)) ∙ all.1 in
    accepted_with judging hash (root_of_figure hash figure) q proof answers answer honest.emitted all.0 read exact
