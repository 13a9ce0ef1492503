-- What a cross-check answers of a proof: a clash is a collision of the hash, and the same is a walk.
use Rattle.std.proofs.Common.{◌≡◌, ℕ, zero, suc, ◌+◌, ◌-◌, ◌<◌, ◌≤◌, Bool, true, false, cond, ltb, leb, List, [], ◌∷◌, ◌++◌, length, drop, Some, Ok, Err, Result, sym, refl, ap, ◌∙◌, subst, subst₂, ⊎_elim, arith}
use Rattle.std.specs.List.{slice_get}
use Rattle.std.proofs.lemmas.Slice.Eq.{bytes_eq-Decides}
use Rattle.std.proofs.lemmas.List.{drop_all}
use Rattle.std.proofs.lemmas.Bool.{cases_Bool, both_ways, ltb-false}
use Rattle.refusal.specs.declared.Refusal.{Refusal}
use Rattle.refusal.specs.declared.Refusal.TheVariants.{QuestionOutOfBounds, ProofTooLong, SheetUnsound}
use Rattle.reader.specs.Parts.{part}
use Rattle.reader.specs.Views.{StringSeen}
use Rattle.reader.specs.Reading.{Position, bytes_left, longest_proof}
use Rattle.reader.proofs.Outcomes as outcomes
use Rattle.search.specs.declared.sheet.SheetRecord.{SheetRecord}
use Rattle.search.specs.Node.{Node}
use Rattle.search.specs.Judging.{Judging}
use Rattle.search.specs.Figure.{root_of}
use Rattle.search.specs.Honest.{string_in, strings_of}
use Rattle.search.specs.Walk.{Walk, ended, taken, most_waiting, waiting_after}
use Rattle.calls.specs.declared.outcomes.Comparison.{Comparison}
use Rattle.calls.specs.declared.outcomes.Comparison.TheVariants.{Same, Difference, Clash}
use Rattle.calls.specs.Chain.{guard}
use Rattle.calls.specs.Sheets.{nodes_in, digests_on, is_count}
use Rattle.calls.specs.Comparing.{goes_on_with, string_there, has_digest_of, differs_at, differs_at_end, compared_from, compare_answer}
use Rattle.calls.specs.Meaning.{IsCollision, ClashesAreCollisions, SameProofsAreWalks}
use Rattle.calls.proofs.Chains.{ok_same, onward_ok, guard_ok}
use Rattle.calls.proofs.Strings.{string_some, there_from_sound, goes_on_lem, bytes_taken, strings_more}
use Rattle.calls.proofs.CompareSteps.{StandsThere, string_there_lem, compare_none, compare_end, compared_node, compared_on, compare_differs}
use Rattle.calls.proofs.Walked.{root_counted}

-- the three answers apart
not_clash : (place byte place' byte' : ℕ) → Difference place byte ≡ Clash place' byte' → ⊥
not_clash place byte place' byte' h = let z : ◌≡◌ {A = ℕ} 0 1 = cc in omega arith

same_not_clash : (place byte : ℕ) → Same ≡ Clash place byte → ⊥
same_not_clash place byte h = let z : ◌≡◌ {A = ℕ} 0 1 = cc in omega arith

same_not_difference : (place byte : ℕ) → Difference place byte ≡ Same → ⊥
same_not_difference place byte h = let z : ◌≡◌ {A = ℕ} 0 1 = cc in omega arith

clash_same : (place byte place' byte' : ℕ) → Clash place byte ≡ Clash place' byte' → (place ≡ place') × (byte ≡ byte')
clash_same place byte place' byte' h = (cc, cc)

end_no_clash : (b : Bool) (root at place byte : ℕ) → cond b (Difference root at) Same ≡ Clash place byte → ⊥
end_no_clash true root at place byte h = not_clash root at place byte h
end_no_clash false root at place byte h = same_not_clash place byte h

end_same : (b : Bool) (root at : ℕ) → cond b (Difference root at) Same ≡ Same → b ≡ false
end_same true root at h = absurd (same_not_difference root at h)
end_same false root at h = refl

differs_not_same : (b : Bool) (place at : ℕ) → cond b (Clash place at) (Difference place at) ≡ Same → ⊥
differs_not_same true place at h = same_not_clash place at (sym h)
differs_not_same false place at h = same_not_difference place at h

differs_clash : (b : Bool) (place at place' byte : ℕ) → cond b (Clash place at) (Difference place at) ≡ Clash place' byte → (b ≡ true) × (place ≡ place') × (at ≡ byte)
differs_clash true place at place' byte h = let same = clash_same place at place' byte h in (refl, same.0, same.1)
differs_clash false place at place' byte h = absurd (not_clash place at place' byte h)

-- the string that has the digest of another
has_digest : (hash : List ℕ → List ℕ) (string : List ℕ) (there : Result (List ℕ) Refusal) → has_digest_of hash string there ≡ true → (other : List ℕ) × (there ≡ Ok other) × (hash string ≡ hash other)
has_digest hash string (Ok other) h = (other, refl, sym ((bytes_eq-Decides (hash other) (hash string)).0 h))
has_digest hash string (Err e) h = absurd (both_ways false refl h)

-- a whole string stands where it was read
stands_whole : {Q : Type 0} (judging : Judging Q) (p : Position) (other : List ℕ) → StandsThere judging p other → other ≡ part p.bytes p.at (length other)
stands_whole judging p other there =
    let read = outcomes.stands p there.shape there.seen there.whole in
    let long : length other ≡ _ = ap length there.is ∙ outcomes.read_length p there.shape there.seen there.whole in
    there.is ∙ ap (λ (t : StringSeen). t.string) read.same ∙ ap (part p.bytes p.at) (sym long)

module _ {Q : Type 0} (judging : Judging Q) (hash : List ℕ → List ℕ) (sheet : List SheetRecord) (count : ℕ) (q : Q) (proof : List ℕ) where
  abbrev nodes : List Node
  nodes = nodes_in judging sheet count

  abbrev digests : List (List ℕ)
  digests = digests_on sheet count

  abbrev from : ℕ → Position
  from k = record { bytes = proof; at = k }

  collision : (k place : ℕ) (n : Node) → slice_get nodes place ≡ Some n → goes_on_with (from k) (string_in digests n) ≡ false → has_digest_of hash (string_in digests n) (string_there judging (from k)) ≡ true
      → IsCollision judging hash sheet count proof place k
  collision k place n there apart has =
      let found = has_digest hash (string_in digests n) (string_there judging (from k)) has in
      let other = found.0 in
      let stands = stands_whole judging (from k) other (string_there_lem judging (from k) other found.1) in
      record {
        node = n;
        there = there;
        other = other;
        stands = stands;
        unequal = λ e. both_ways (goes_on_with (from k) (string_in digests n)) apart ((bytes_eq-Decides (part proof k (length (string_in digests n))) (string_in digests n)).1 (ap (λ (t : List ℕ). part proof k (length t)) e ∙ sym stands ∙ sym e));
        one_digest = found.2;
      }

  collides : (turns k : ℕ) (waiting : List ℕ) (place byte : ℕ) → compared_from judging hash q nodes digests turns (from k) waiting ≡ Ok (Clash place byte) → IsCollision judging hash sheet count proof place byte
  collides zero k waiting place byte h = absurd (same_not_clash place byte (ok_same {E = Refusal} Same (Clash place byte) (sym (compare_none judging hash q nodes digests (from k) waiting) ∙ h)))
  collides (suc turns) k [] place byte h =
      absurd (end_no_clash (ltb 0 (bytes_left (from k))) (root_of nodes) k place byte (ok_same {E = Refusal} (differs_at_end (root_of nodes) (from k)) (Clash place byte) (sym (compare_end judging hash q nodes digests turns (from k)) ∙ h)))
  collides (suc turns) k (next ∷ waiting) place byte h =
      let node = compared_node judging hash q nodes digests turns (from k) next waiting (Clash place byte) h in
      let n = node.0 in
      let string = string_in digests n in
      ⊎_elim
      (λ same. collides turns (k + length string) (waiting_after judging q n waiting) place byte (compared_on judging hash q nodes digests turns (from k) next waiting n node.1 (Clash place byte) same h).1)
      (λ apart.
      let e = ok_same {E = Refusal} (differs_at judging hash next string (from k)) (Clash place byte) (sym (compare_differs judging hash q nodes digests turns (from k) next waiting n node.1 apart) ∙ h) in
      let named = differs_clash (has_digest_of hash string (string_there judging (from k))) next k place byte e in
      subst₂ (λ (x y : ℕ). IsCollision judging hash sheet count proof x y) named.1 named.2 (collision k next n (there_from_sound judging nodes next n node.1) apart named.0))
      (cases_Bool (goes_on_with (from k) string))

  record SameWalk (k : ℕ) (waiting : List ℕ) : Type 0 where
    visited : List Node
    emitted : List ℕ
    walk : Walk judging q most_waiting nodes waiting visited emitted
    are : drop k proof ≡ strings_of digests visited

  same_more : (k next : ℕ) (waiting : List ℕ) (n : Node) → slice_get nodes next ≡ Some n → length (waiting_after judging q n waiting) ≤ most_waiting
      → drop k proof ≡ string_in digests n ++ drop (k + length (string_in digests n)) proof → SameWalk (k + length (string_in digests n)) (waiting_after judging q n waiting) → SameWalk k (next ∷ waiting)
  same_more k next waiting n there few stand later =
      record { visited = n ∷ later.visited; emitted = _; walk = taken there few later.walk; are = strings_more digests n later.visited (drop k proof) (drop (k + length (string_in digests n)) proof) stand later.are }

  same_walk : (turns k : ℕ) (waiting : List ℕ) → length proof - k < turns → compared_from judging hash q nodes digests turns (from k) waiting ≡ Ok Same → SameWalk k waiting
  same_walk zero k waiting enough h = absurd (omega arith)
  same_walk (suc turns) k [] enough h =
      let none = end_same (ltb 0 (bytes_left (from k))) (root_of nodes) k (ok_same {E = Refusal} (differs_at_end (root_of nodes) (from k)) Same (sym (compare_end judging hash q nodes digests turns (from k)) ∙ h)) in
      record { visited = []; emitted = []; walk = ended; are = drop_all k proof (omega (arith, ltb-false 0 (bytes_left (from k)) none)) }
  same_walk (suc turns) k (next ∷ waiting) enough h =
      let node = compared_node judging hash q nodes digests turns (from k) next waiting Same h in
      let n = node.0 in
      let string = string_in digests n in
      ⊎_elim
      (λ same.
      let stand = goes_on_lem (from k) string same in
      let read = bytes_taken (from k) string (drop (k + length string) proof) stand in
      let some = string_some digests n in
      let on = compared_on judging hash q nodes digests turns (from k) next waiting n node.1 Same same h in
      same_more k next waiting n (there_from_sound judging nodes next n node.1) on.0 stand (same_walk turns (k + length string) (waiting_after judging q n waiting) (omega arith) on.1))
      (λ apart.
      let e = ok_same {E = Refusal} (differs_at judging hash next string (from k)) Same (sym (compare_differs judging hash q nodes digests turns (from k) next waiting n node.1 apart) ∙ h) in
      absurd (differs_not_same (has_digest_of hash string (string_there judging (from k))) next k e))
      (cases_Bool (goes_on_with (from k) string))

  -- what an answered cross-check passed before the first node
  compared_first : (answer : Comparison) → compare_answer judging hash sheet count q proof ≡ Ok answer
      → (is_count sheet count ≡ true) × (compared_from judging hash q nodes digests (suc (length proof)) (from 0) ((count - 1) ∷ []) ≡ Ok answer)
  compared_first answer h =
      let a = onward_ok (guard (judging.is_within_bounds q) QuestionOutOfBounds) _ answer h in
      let b = onward_ok (guard (leb (length proof) longest_proof) ProofTooLong) _ answer a.2 in
      let c = onward_ok (guard (is_count sheet count) SheetUnsound) (λ _. compared_from judging hash q nodes digests (suc (length proof)) (from 0) ((count - 1) ∷ [])) answer b.2 in
      (guard_ok _ _ _ c.1, c.2)

pub clashes_are_collisions_lem : {Q : Type 0} (judging : Judging Q) → ClashesAreCollisions judging
clashes_are_collisions_lem judging hash sheet count q proof place byte h =
    collides judging hash sheet count q proof (suc (length proof)) 0 ((count - 1) ∷ []) place byte (compared_first judging hash sheet count q proof (Clash place byte) h).1

pub same_proofs_are_walks_lem : {Q : Type 0} (judging : Judging Q) → SameProofsAreWalks judging
same_proofs_are_walks_lem judging hash sheet count q proof h =
    let first = compared_first judging hash sheet count q proof Same h in
    let all = same_walk judging hash sheet count q proof (suc (length proof)) 0 ((count - 1) ∷ []) (omega arith) first.1 in
    (all.visited, all.emitted, subst (λ (r : ℕ). Walk judging q most_waiting (nodes_in judging sheet count) (r ∷ []) all.visited all.emitted) (sym (root_counted judging sheet count first.0)) all.walk, all.are)
