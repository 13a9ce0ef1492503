-- One step of a check.
use Rattle.std.proofs.Common.{◌≡◌, ℕ, suc, ◌+◌, ◌<◌, ◌≤◌, true, ltb, leb, List, [], ◌∷◌, ◌++◌, length, Some, Ok, Err, sym, refl, ap, ◌∙◌, subst, ⊎_elim, arith}
use Rattle.std.specs.List.{AllByRecursion}
use Rattle.std.specs.Str.{bytes_eq}
use Rattle.std.proofs.lemmas.Slice.Eq.{bytes_eq-Decides}
use Rattle.std.proofs.lemmas.Bool.{cases_Bool, cond-true, cond-false, le-leb, leb-true, ltb-false, le-ltb}
use Rattle.node.specs.declared.shape.Shape.{Shape}
use Rattle.reader.specs.declared.fault.ReaderFault.{ReaderFault}
use Rattle.reader.specs.declared.fault.ReaderFault.TheVariants.{ProofTooLong, BytesLeftOver}
use Rattle.reader.specs.Parts.{numbers_in, digests_in}
use Rattle.reader.specs.Views.{StringSeen}
use Rattle.reader.specs.Reading.{Position, bytes_left, map_ok, onward, longest_proof, opened, read_kind, read_string, finished}
use Rattle.reader.specs.RoundTrips.{ReadBack}
use Rattle.fault.specs.declared.layers.HashFault.TheVariants.{DigestMismatch}
use Rattle.fault.specs.declared.layers.SearchFault.TheVariants.{KindNotKnown, NumbersUnfit, StackFull}
use Rattle.fault.specs.declared.layers.AnswerFault.TheVariants.{BufferFull}
use Rattle.fault.specs.declared.report.Fault.{Fault}
use Rattle.fault.specs.Carrying.{carried}
use Rattle.search.specs.Node.{Node}
use Rattle.search.specs.Judging.{Judging, Judgement}
use Rattle.search.specs.Honest.{string_in}
use Rattle.search.specs.Picks.{picks}
use Rattle.search.specs.Walk.{most_waiting, judge_node, waiting_after}
use Rattle.calls.specs.Chain.{guard, found}
use Rattle.calls.specs.Checking.{reader_at, hash_at, search_at, answer_at, has_place_for, how_many_in, StringChecked, digests_after, judged_as, string_checked, ProofRead, no_more, one_more, checked_from}
use Rattle.calls.proofs.Chains.{not_ok, ok_same, onward_ok, onward_at, carried_ok, carried_at, map_ok_ok, guard_ok, guard_at, found_ok, found_at}
use Rattle.calls.proofs.Picking.{picks_append, picks_picks}

-- where nothing waits, nothing is left
pub finished_ok : (p : Position) (u : Unit {0}) → finished p ≡ Ok u → bytes_left p ≡ 0
finished_ok p u h =
    ⊎_elim
    (λ t. absurd (not_ok (BytesLeftOver p.at) u (sym (cond-true (ltb 0 (bytes_left p)) _ _ t) ∙ h)))
    (λ f. omega (arith, ltb-false 0 (bytes_left p) f))
    (cases_Bool (ltb 0 (bytes_left p)))

pub finished_at : (p : Position) → bytes_left p ≡ 0 → finished p ≡ Ok tt
finished_at p h = cond-false (ltb 0 (bytes_left p)) (Err (BytesLeftOver p.at)) (Ok tt) (le-ltb 0 (bytes_left p) (omega arith))

-- a reader begins at the first byte of a proof that is not too long
pub opened_ok : (proof : List ℕ) (p : Position) → opened proof ≡ Ok p → (length proof ≤ longest_proof) × (p ≡ record { bytes = proof; at = 0 })
opened_ok proof p h =
    ⊎_elim
    (λ t. (leb-true (length proof) longest_proof t, ok_same {E = ReaderFault} p (record { bytes = proof; at = 0 }) (sym h ∙ cond-true (leb (length proof) longest_proof) (Ok (record { bytes = proof; at = 0 })) (Err ProofTooLong) t)))
    (λ f. absurd (not_ok ProofTooLong p (sym (cond-false (leb (length proof) longest_proof) (Ok (record { bytes = proof; at = 0 })) (Err ProofTooLong) f) ∙ h)))
    (cases_Bool (leb (length proof) longest_proof))

pub opened_at : (proof : List ℕ) → length proof ≤ longest_proof → opened proof ≡ Ok (record { bytes = proof; at = 0 })
opened_at proof h = cond-true (leb (length proof) longest_proof) (Ok (record { bytes = proof; at = 0 })) (Err ProofTooLong) (le-leb (length proof) longest_proof h)

-- a string read back is judged as its node, and the digests of the same successors wait
module _ {Q : Type 0} (judging : Judging Q) (q : Q) (digests : List (List ℕ)) (n : Node) (p : Position) (shape : Shape) (seen : StringSeen) (back : ReadBack p shape n.kind n.numbers (picks digests n.successors) seen) where
  pub judged_same : (judged_as judging q seen).judgement ≡ judge_node judging q n
  judged_same =
      let kind = back.kind_is in
      let numbers = back.numbers_are in
      λ i. judging.judge q (kind i) (numbers i)

  pub waiting_same : AllByRecursion (λ s. s < length digests) n.successors → (waiting : List ℕ) → digests_after (judged_as judging q seen) (picks digests waiting) ≡ picks digests (waiting_after judging q n waiting)
  waiting_same there waiting =
      let ways = (judge_node judging q n).ways in
      ap (λ (j : Judgement). picks (digests_in seen.successors) j.ways ++ picks digests waiting) judged_same
      ∙ ap (λ (t : List (List ℕ)). picks t ways ++ picks digests waiting) back.digests_are
      ∙ ap (λ (t : List (List ℕ)). t ++ picks digests waiting) (sym (picks_picks digests n.successors ways there))
      ∙ sym (picks_append digests (picks n.successors ways) waiting)

  -- the check goes on from the place after the node's string
  pub later_same : AllByRecursion (λ s. s < length digests) n.successors → (hash : List ℕ → List ℕ) (places turns held step : ℕ) (waiting : List ℕ)
      → checked_from judging hash q places turns (held + how_many_in (judged_as judging q seen).judgement.emits) step (record { bytes = p.bytes; at = seen.ends }) (digests_after (judged_as judging q seen) (picks digests waiting))
      ≡ checked_from judging hash q places turns (held + how_many_in (judge_node judging q n).emits) step (record { bytes = p.bytes; at = p.at + length (string_in digests n) }) (picks digests (waiting_after judging q n waiting))
  later_same there hash places turns held step waiting =
      let judged = judged_same in
      let ends = back.ends_at in
      let after = waiting_same there waiting in
      λ i. checked_from judging hash q places turns (held + how_many_in (judged i).emits) step (record { bytes = p.bytes; at = ends i }) (after i)

module _ {Q : Type 0} (judging : Judging Q) (hash : List ℕ → List ℕ) (q : Q) (places : ℕ) where
  -- what a string that is checked passed
  pub record StringTests (p : Position) (digest : List ℕ) (s : StringChecked) : Type 0 where
    pub kind : ℕ
    pub shape : Shape
    pub read : read_kind p ≡ Ok kind
    pub known : judging.shape_of kind ≡ Some shape
    pub whole : read_string p shape ≡ Ok s.seen
    pub hashed : hash s.seen.string ≡ digest
    pub is : s ≡ judged_as judging q s.seen

  pub string_tests : (held step : ℕ) (p : Position) (digest : List ℕ) (waiting : List (List ℕ)) (s : StringChecked)
      → string_checked judging hash q places held step p digest waiting ≡ Ok s → StringTests p digest s
  string_tests held step p digest waiting s h =
      let a = carried_ok (reader_at step) (read_kind p) _ s h in
      let b = carried_ok (search_at step p.at) (found (judging.shape_of a.0) (KindNotKnown a.0)) _ s a.2 in
      let c = carried_ok (reader_at step) (read_string p b.0) _ s b.2 in
      let seen = c.0 in
      let d = carried_ok (hash_at step p.at) (guard (bytes_eq (hash seen.string) digest) DigestMismatch) _ s c.2 in
      let e = carried_ok (search_at step p.at) (guard (judging.is_fit a.0 (numbers_in seen.numbers)) (NumbersUnfit a.0)) _ s d.2 in
      let f = carried_ok (answer_at step p.at) (guard (has_place_for held places (judged_as judging q seen).judgement.emits) (BufferFull places)) _ s e.2 in
      let g = carried_ok (search_at step p.at) (guard (leb (length (digests_after (judged_as judging q seen) waiting)) most_waiting) StackFull) _ s f.2 in
      subst (StringTests p digest) (ok_same {E = Fault} (judged_as judging q seen) s g.2) (record {
        kind = a.0;
        shape = b.0;
        read = a.1;
        known = found_ok (judging.shape_of a.0) (KindNotKnown a.0) b.0 b.1;
        whole = c.1;
        hashed = (bytes_eq-Decides (hash seen.string) digest).0 (guard_ok _ _ _ d.1);
        is = refl;
      })

  pub string_checked_lem : (held step : ℕ) (p : Position) (digest : List ℕ) (waiting : List (List ℕ)) (kind : ℕ) (shape : Shape) (seen : StringSeen)
      → read_kind p ≡ Ok kind → judging.shape_of kind ≡ Some shape → read_string p shape ≡ Ok seen → hash seen.string ≡ digest
      → judging.is_fit kind (numbers_in seen.numbers) ≡ true → has_place_for held places (judged_as judging q seen).judgement.emits ≡ true
      → length (digests_after (judged_as judging q seen) waiting) ≤ most_waiting
      → string_checked judging hash q places held step p digest waiting ≡ Ok (judged_as judging q seen)
  string_checked_lem held step p digest waiting kind shape seen read known whole hashed fit place few =
      carried_at (reader_at step) (read_kind p) kind _ read
      ∙ carried_at (search_at step p.at) (found (judging.shape_of kind) (KindNotKnown kind)) shape _ (found_at _ _ shape known)
      ∙ carried_at (reader_at step) (read_string p shape) seen _ whole
      ∙ carried_at (hash_at step p.at) (guard (bytes_eq (hash seen.string) digest) DigestMismatch) tt _ (guard_at _ _ ((bytes_eq-Decides (hash seen.string) digest).1 hashed))
      ∙ carried_at (search_at step p.at) (guard (judging.is_fit kind (numbers_in seen.numbers)) (NumbersUnfit kind)) tt _ (guard_at _ _ fit)
      ∙ carried_at (answer_at step p.at) (guard (has_place_for held places (judged_as judging q seen).judgement.emits) (BufferFull places)) tt _ (guard_at _ _ place)
      ∙ carried_at (search_at step p.at) (guard (leb (length (digests_after (judged_as judging q seen) waiting)) most_waiting) StackFull) tt _ (guard_at _ _ (le-leb _ _ few))

  pub check_end : (turns held step : ℕ) (p : Position) → checked_from judging hash q places (suc turns) held step p [] ≡ carried (reader_at step) (finished p) (λ _. Ok (no_more p))
  unfolding checked_from
  check_end turns held step p = refl

  pub check_step : (turns held step : ℕ) (p : Position) (digest : List ℕ) (waiting : List (List ℕ)) → checked_from judging hash q places (suc turns) held step p (digest ∷ waiting)
      ≡ onward (string_checked judging hash q places held (suc step) p digest waiting) (λ s. map_ok (one_more s) (checked_from judging hash q places turns (held + how_many_in s.judgement.emits) (suc step) (record { bytes = p.bytes; at = s.seen.ends }) (digests_after s waiting)))
  unfolding checked_from
  check_step turns held step p digest waiting = refl

  -- an accepted step: the string, what it passed, and what is read after it
  pub record CheckStep (turns held step : ℕ) (p : Position) (digest : List ℕ) (waiting : List (List ℕ)) (done : ProofRead) : Type 0 where
    pub s : StringChecked
    pub tests : StringTests p digest s
    pub others : ProofRead
    pub later : checked_from judging hash q places turns (held + how_many_in s.judgement.emits) (suc step) (record { bytes = p.bytes; at = s.seen.ends }) (digests_after s waiting) ≡ Ok others
    pub is : done ≡ one_more s others

  pub checked_step : (turns held step : ℕ) (p : Position) (digest : List ℕ) (waiting : List (List ℕ)) (done : ProofRead)
      → checked_from judging hash q places (suc turns) held step p (digest ∷ waiting) ≡ Ok done → CheckStep turns held step p digest waiting done
  checked_step turns held step p digest waiting done h =
      let a = onward_ok (string_checked judging hash q places held (suc step) p digest waiting) _ done (sym (check_step turns held step p digest waiting) ∙ h) in
      let b = map_ok_ok (one_more a.0) (checked_from judging hash q places turns (held + how_many_in a.0.judgement.emits) (suc step) (record { bytes = p.bytes; at = a.0.seen.ends }) (digests_after a.0 waiting)) done a.2 in
      record { s = a.0; tests = string_tests held (suc step) p digest waiting a.0 a.1; others = b.0; later = b.1; is = b.2 }

  pub check_on : (turns held step : ℕ) (p : Position) (digest : List ℕ) (waiting : List (List ℕ)) (s : StringChecked) (others : ProofRead)
      → string_checked judging hash q places held (suc step) p digest waiting ≡ Ok s
      → checked_from judging hash q places turns (held + how_many_in s.judgement.emits) (suc step) (record { bytes = p.bytes; at = s.seen.ends }) (digests_after s waiting) ≡ Ok others
      → checked_from judging hash q places (suc turns) held step p (digest ∷ waiting) ≡ Ok (one_more s others)
  check_on turns held step p digest waiting s others here later =
      check_step turns held step p digest waiting
      ∙ onward_at (string_checked judging hash q places held (suc step) p digest waiting) s _ here
      ∙ ap (map_ok (one_more s)) later
