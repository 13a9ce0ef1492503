-- A check and a cross-check of one proof go in step, unless there is a clash.
use Rattle.std.proofs.Common.{◌≡◌, ℕ, zero, suc, ◌+◌, ◌-◌, ◌<◌, ◌≤◌, true, false, leb, List, [], ◌∷◌, ◌++◌, length, drop, Some, Ok, Option, sym, ap, ◌∙◌, subst, ⊎_elim, arith}
use Rattle.std.specs.List.{slice_get}
use Rattle.std.proofs.lemmas.List.{drop_all}
use Rattle.std.proofs.lemmas.Bool.{cases_Bool, le-leb}
use Rattle.refusal.specs.declared.Refusal.TheVariants.{QuestionOutOfBounds, ProofTooLong, SheetUnsound}
use Rattle.reader.specs.declared.fault.ReaderFault.{ReaderFault}
use Rattle.reader.specs.Reading.{Position, longest_proof, opened, read_string, finished}
use Rattle.fault.specs.declared.layers.SearchFault.TheVariants as search
use Rattle.fault.specs.declared.report.Fault.{Fault}
use Rattle.fault.specs.Carrying.{from_reader, from_search}
use Rattle.search.specs.declared.sheet.SheetRecord.{SheetRecord}
use Rattle.search.specs.Node.{Node}
use Rattle.search.specs.Judging.{Judging, Judgement}
use Rattle.search.specs.Figure.{IsFigure, root_of}
use Rattle.search.specs.Honest.{string_in, strings_of, digests_of, HasDigests}
use Rattle.search.specs.Laws.{JudgesWell}
use Rattle.search.specs.Picks.{ahead, picks}
use Rattle.search.specs.Walk.{Walk, ended, taken, most_waiting, judge_node, waiting_after}
use Rattle.search.proofs.Places.{some_same}
use Rattle.calls.specs.Chain.{guard, found}
use Rattle.calls.specs.Sheets.{digests_on, is_count}
use Rattle.calls.specs.Checking.{reader_at, how_many_in, StringChecked, digests_after, judged_as, ProofRead, no_more, checked_from, proof_read}
use Rattle.calls.specs.Comparing.{goes_on_with, compared_from, compare_answer}
use Rattle.calls.specs.Meaning.{HasSmallNodes, root_of_figure, ShowsFigure, IsClash, AcceptedProofsAreHonest}
use Rattle.calls.proofs.Chains.{ok_same, carried_ok, map_ok_ok, onward_at, guard_ok, guard_at, found_ok}
use Rattle.calls.proofs.Picking.{picks_cons}
use Rattle.calls.proofs.Digests.{nth_digest}
use Rattle.calls.proofs.Strings.{string_some, sound_there, goes_on_lem, bytes_taken, strings_more, read_node, successors_there}
use Rattle.calls.proofs.CheckSteps.{finished_ok, opened_ok, judged_same, later_same, CheckStep, check_end, checked_step}
use Rattle.calls.proofs.CompareSteps.{there_from, clash_there, compare_on, compare_differs}
use Rattle.calls.proofs.Honest.{accepted_with}

module _ {Q : Type 0} (judging : Judging Q) (hash : List ℕ → List ℕ) (q : Q) (figure : List Node) (well : JudgesWell judging) (small : HasSmallNodes judging) (are : HasDigests hash) (is : IsFigure judging figure) (places : ℕ) (proof : List ℕ) where
  abbrev digests : List (List ℕ)
  digests = digests_of hash figure

  abbrev from : ℕ → Position
  from k = record { bytes = proof; at = k }

  abbrev compared : ℕ → ℕ → List ℕ → Type 0
  compared turns k waiting = IsClash (compared_from judging hash q figure digests turns (from k) waiting)

  -- from a byte on the proof is the strings of the walk, and what the check read is what it emits
  pub record InStep (k : ℕ) (visited : List Node) (emitted : List ℕ) (done : ProofRead) : Type 0 where
    pub stand : drop k proof ≡ strings_of digests visited
    pub emits : done.emitted ≡ emitted
    pub bytes : done.bytes ≡ length proof

  step_end : (turns held step k : ℕ) (done : ProofRead) → k ≤ length proof → checked_from judging hash q places (suc turns) held step (from k) [] ≡ Ok done → InStep k [] [] done
  step_end turns held step k done within h =
      let a = carried_ok (reader_at step) (finished (from k)) (λ _. Ok (no_more (from k))) done (sym (check_end judging hash q places turns held step (from k)) ∙ h) in
      let none = finished_ok (from k) a.0 a.1 in
      let same : no_more (from k) ≡ done = ok_same {E = Fault} (no_more (from k)) done a.2 in
      record { stand = drop_all k proof (omega (arith, none)); emits = ap (λ (d : ProofRead). d.emitted) (sym same); bytes = ap (λ (d : ProofRead). d.bytes) (sym same) ∙ omega (arith, none) }

  module _ (turns held step k place : ℕ) (waiting : List ℕ) (n : Node) (there : slice_get figure place ≡ Some n) where
    -- other bytes that the check accepts here are a clash
    other_clashes : (done : ProofRead) → CheckStep judging hash q places turns held step (from k) (hash (string_in digests n)) (picks digests waiting) done
        → goes_on_with (from k) (string_in digests n) ≡ false → compared (suc turns) k (place ∷ waiting)
    other_clashes done at apart =
        let tests = at.tests in
        let sound = sound_there judging figure place n there (is.sound place n there) in
        let stands = there_from judging (from k) tests.kind tests.shape at.s.seen tests.read tests.known tests.whole in
        let clash = compare_differs judging hash q figure digests turns (from k) place waiting n sound apart ∙ ap Ok (clash_there judging (from k) hash place (string_in digests n) at.s.seen.string stands tests.hashed) in
        subst IsClash (sym clash) tt

    -- the node's own string is read and judged as the node
    record SameNode (done : ProofRead) : Type 0 where
      others : ProofRead
      later : checked_from judging hash q places turns (held + how_many_in (judge_node judging q n).emits) (suc step) (from (k + length (string_in digests n))) (picks digests (waiting_after judging q n waiting)) ≡ Ok others
      emits : done.emitted ≡ ahead (judge_node judging q n).emits others.emitted
      bytes : done.bytes ≡ others.bytes

    same_node : (rest : List ℕ) → drop k proof ≡ string_in digests n ++ rest
        → (done : ProofRead) → CheckStep judging hash q places turns held step (from k) (hash (string_in digests n)) (picks digests waiting) done → SameNode done
    same_node rest stand done at =
        let sound = is.sound place n there in
        let read = read_node judging hash figure well small are is place n there (from k) rest stand in
        let seen = read.0 in
        let back = read.1 in
        let tests = at.tests in
        let kind : tests.kind ≡ n.kind = ok_same {E = ReaderFault} tests.kind n.kind (sym tests.read ∙ back.kind_first) in
        let shape : tests.shape ≡ sound.shape = some_same tests.shape sound.shape (sym tests.known ∙ ap judging.shape_of kind ∙ sound.judgeable.known) in
        let same : at.s.seen ≡ seen = ok_same {E = ReaderFault} at.s.seen seen (sym tests.whole ∙ ap (read_string (from k)) shape ∙ back.whole) in
        let string : at.s ≡ judged_as judging q seen = tests.is ∙ ap (judged_as judging q) same in
        let judged : at.s.judgement ≡ judge_node judging q n = ap (λ (t : StringChecked). t.judgement) string ∙ judged_same judging q digests n (from k) sound.shape seen back in
        let next = later_same judging q digests n (from k) sound.shape seen back (successors_there judging hash figure well small are is place n there) hash places turns held (suc step) waiting in
        record {
          others = at.others;
          later = sym next ∙ subst (λ (t : StringChecked). checked_from judging hash q places turns (held + how_many_in t.judgement.emits) (suc step) (record { bytes = proof; at = t.seen.ends }) (digests_after t (picks digests waiting)) ≡ Ok at.others) string at.later;
          emits = ap (λ (d : ProofRead). d.emitted) at.is ∙ ap (λ (j : Judgement). ahead j.emits at.others.emitted) judged;
          bytes = ap (λ (d : ProofRead). d.bytes) at.is;
        }

  lockstep : (waiting : List ℕ) (visited : List Node) (emitted : List ℕ) → Walk judging q most_waiting figure waiting visited emitted
      → (turns held step k : ℕ) (done : ProofRead) → length proof - k < turns → k ≤ length proof
      → checked_from judging hash q places turns held step (from k) (picks digests waiting) ≡ Ok done → (compared turns k waiting → ⊥) → InStep k visited emitted done
  lockstep _ _ _ ended zero held step k done enough within h never = absurd (omega arith)
  lockstep _ _ _ ended (suc turns) held step k done enough within h never = step_end turns held step k done within h
  lockstep _ _ _ (taken there few rest) zero held step k done enough within h never = absurd (omega arith)
  lockstep _ _ _ (taken {place} {waiting} {node = n} {visited} {emitted} there few rest) (suc turns) held step k done enough within h never =
      let string = string_in digests n in
      let here = ap (checked_from judging hash q places (suc turns) held step (from k)) (sym (picks_cons digests place waiting (hash string) (nth_digest hash judging figure is place n there))) ∙ h in
      let at = checked_step judging hash q places turns held step (from k) (hash string) (picks digests waiting) done here in
      ⊎_elim
      (λ same.
      let stand = goes_on_lem (from k) string same in
      let node = same_node turns held step k place waiting n there (drop (k + length string) proof) stand done at in
      let on = compare_on judging hash q figure digests turns (from k) place waiting n (sound_there judging figure place n there (is.sound place n there)) same few in
      let read = bytes_taken (from k) string (drop (k + length string) proof) stand in
      let some = string_some digests n in
      let later = lockstep _ _ _ rest turns (held + how_many_in (judge_node judging q n).emits) (suc step) (k + length string) node.others (omega arith) (omega arith) node.later (λ clash. never (subst IsClash (sym on) clash)) in
      record { stand = strings_more digests n visited (drop k proof) (drop (k + length string) proof) stand later.stand; emits = node.emits ∙ ap (ahead (judge_node judging q n).emits) later.emits; bytes = node.bytes ∙ later.bytes })
      (λ apart. absurd (never (other_clashes turns held step k place waiting n there done at apart)))
      (cases_Bool (goes_on_with (from k) string))

-- what a proof that was read passed before the first string
record Opened {Q : Type 0} (judging : Judging Q) (hash : List ℕ → List ℕ) (root : Option (List ℕ)) (q : Q) (proof : List ℕ) (places : ℕ) (done : ProofRead) : Type 0 where
  digest : List ℕ
  adopted : root ≡ Some digest
  within : judging.is_within_bounds q ≡ true
  short : length proof ≤ longest_proof
  read : checked_from judging hash q places (suc (length proof)) 0 0 (record { bytes = proof; at = 0 }) (digest ∷ []) ≡ Ok done

opened_first : {Q : Type 0} (judging : Judging Q) (hash : List ℕ → List ℕ) (root : Option (List ℕ)) (q : Q) (proof : List ℕ) (places : ℕ) (done : ProofRead)
    → proof_read judging hash root q proof places ≡ Ok done → Opened judging hash root q proof places done
opened_first judging hash root q proof places done h =
    let a = carried_ok from_search (found root search.NoRootAdopted) _ done h in
    let b = carried_ok from_search (guard (judging.is_within_bounds q) search.QuestionOutOfBounds) _ done a.2 in
    let c = carried_ok from_reader (opened proof) _ done b.2 in
    let p = opened_ok proof c.0 c.1 in
    record {
      digest = a.0;
      adopted = found_ok root search.NoRootAdopted a.0 a.1;
      within = guard_ok (judging.is_within_bounds q) search.QuestionOutOfBounds b.0 b.1;
      short = p.0;
      read = ap (λ (t : Position). checked_from judging hash q places (suc (length proof)) 0 0 t (a.0 ∷ [])) (sym p.1) ∙ c.2;
    }

-- a cross-check with a sheet that shows a figure walks the figure
compare_shown : {Q : Type 0} (judging : Judging Q) (hash : List ℕ → List ℕ) (figure : List Node) (sheet : List SheetRecord) (q : Q) (proof : List ℕ)
    → ShowsFigure judging hash figure sheet → judging.is_within_bounds q ≡ true → length proof ≤ longest_proof
    → compare_answer judging hash sheet (length figure) q proof ≡ compared_from judging hash q figure (digests_of hash figure) (suc (length proof)) (record { bytes = proof; at = 0 }) (root_of figure ∷ [])
compare_shown judging hash figure sheet q proof shows within short =
    onward_at (guard (judging.is_within_bounds q) QuestionOutOfBounds) tt _ (guard_at (judging.is_within_bounds q) QuestionOutOfBounds within)
    ∙ onward_at (guard (leb (length proof) longest_proof) ProofTooLong) tt _ (guard_at (leb (length proof) longest_proof) ProofTooLong (le-leb (length proof) longest_proof short))
    ∙ onward_at (guard (is_count sheet (length figure)) SheetUnsound) tt _ (guard_at (is_count sheet (length figure)) SheetUnsound shows.counted)
    ∙ ap (λ (t : List Node). compared_from judging hash q t (digests_on sheet (length figure)) (suc (length proof)) (record { bytes = proof; at = 0 }) (root_of figure ∷ [])) shows.nodes
    ∙ ap (λ (t : List (List ℕ)). compared_from judging hash q figure t (suc (length proof)) (record { bytes = proof; at = 0 }) (root_of figure ∷ [])) shows.digests

pub accepted_proofs_are_honest_lem : {Q : Type 0} (judging : Judging Q) → AcceptedProofsAreHonest judging
accepted_proofs_are_honest_lem judging hash figure sheet q proof answers answer checked well small are is shows answered h never =
    let places = length answers in
    let a = map_ok_ok _ (proof_read judging hash (root_of_figure hash figure) q proof places) checked h in
    let done = a.0 in
    let first = opened_first judging hash (root_of_figure hash figure) q proof places done a.1 in
    let read = ap (checked_from judging hash q places (suc (length proof)) 0 0 (record { bytes = proof; at = 0 })) (picks_cons (digests_of hash figure) (root_of figure) [] first.digest first.adopted) ∙ first.read in
    let walked = lockstep judging hash q figure well small are is places proof (root_of figure ∷ []) answered.visited answered.emitted answered.walk (suc (length proof)) 0 0 0 done (omega arith) (omega arith) read
    (λ clash. never (subst IsClash (sym (compare_shown judging hash figure sheet q proof shows first.within first.short)) clash)) in
    let whole : done ≡ record { emitted = answered.emitted; strings = done.strings; bytes = length proof } =
    let e = walked.emits in
    let b = walked.bytes in
    λ i. record { emitted = e i; strings = done.strings; bytes = b i } in (
      record { visited = answered.visited; emitted = answered.emitted; walk = answered.walk; is = walked.stand },
      accepted_with judging hash (root_of_figure hash figure) q proof answers answer answered.emitted done.strings (a.1 ∙ ap Ok whole) answered.exact,
    )
