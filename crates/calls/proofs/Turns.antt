-- One turn more than there are bytes is enough: each string has 4 bytes at least.
use Rattle.std.proofs.Common.{◌≡◌, ℕ, zero, suc, ◌+◌, ◌-◌, ◌<◌, leb, List, [], ◌∷◌, length, drop, Ok, Result, sym, ap, ◌∙◌, arith}
use Rattle.refusal.specs.declared.Refusal.TheVariants.{StackFull}
use Rattle.reader.specs.Reading.{Position, bytes_left, map_ok, onward}
use Rattle.reader.proofs.Outcomes.{read_shortens}
use Rattle.search.specs.Node.{Node}
use Rattle.search.specs.Judging.{Judging}
use Rattle.search.specs.Honest.{string_in}
use Rattle.search.specs.Walk.{waiting_after, most_waiting}
use Rattle.calls.specs.Chain.{guard}
use Rattle.calls.specs.Sheets.{sound_at}
use Rattle.calls.specs.Proving.{node_proved, proved_from}
use Rattle.calls.specs.Checking.{how_many_in, StringChecked, digests_after, string_checked, one_more, checked_from}
use Rattle.calls.specs.Comparing.{goes_on_with, past, compared_from}
use Rattle.calls.specs.Meaning.{TurnsSuffice}
use Rattle.calls.proofs.Chains.{onward_alike, choose_alike}
use Rattle.calls.proofs.Strings.{string_some, goes_on_lem, bytes_taken}
use Rattle.calls.proofs.ProveSteps.{node_tests, prove_end, prove_step}
use Rattle.calls.proofs.CheckSteps.{string_tests, check_end, check_step}
use Rattle.calls.proofs.CompareSteps.{compare_end, compare_step}

module _ {Q : Type 0} (judging : Judging Q) (q : Q) where
  module _ (nodes : List Node) (digests : List (List ℕ)) where
    proving : (turns turns' room : ℕ) (waiting : List ℕ) → room < turns → room < turns' → proved_from judging q nodes digests turns room waiting ≡ proved_from judging q nodes digests turns' room waiting
    proving zero turns' room waiting h h' = absurd (omega arith)
    proving (suc turns) zero room waiting h h' = absurd (omega arith)
    proving (suc turns) (suc turns') room [] h h' = prove_end judging q nodes digests turns room ∙ sym (prove_end judging q nodes digests turns' room)
    proving (suc turns) (suc turns') room (place ∷ waiting) h h' =
        prove_step judging q nodes digests turns room place waiting
        ∙ onward_alike (node_proved judging q nodes digests room place waiting) _ _ (λ (n : Node) (e : node_proved judging q nodes digests room place waiting ≡ Ok n).
        let fits = (node_tests judging q nodes digests room place waiting n e).fits in
        let some = string_some digests n in
        ap (map_ok (λ (t : List (List ℕ)). string_in digests n ∷ t)) (proving turns turns' (room - length (string_in digests n)) (waiting_after judging q n waiting) (omega arith) (omega arith)))
        ∙ sym (prove_step judging q nodes digests turns' room place waiting)

    comparing : (hash : List ℕ → List ℕ) (turns turns' : ℕ) (p : Position) (waiting : List ℕ) → bytes_left p < turns → bytes_left p < turns'
        → compared_from judging hash q nodes digests turns p waiting ≡ compared_from judging hash q nodes digests turns' p waiting
    comparing hash zero turns' p waiting h h' = absurd (omega arith)
    comparing hash (suc turns) zero p waiting h h' = absurd (omega arith)
    comparing hash (suc turns) (suc turns') p [] h h' = compare_end judging hash q nodes digests turns p ∙ sym (compare_end judging hash q nodes digests turns' p)
    comparing hash (suc turns) (suc turns') p (place ∷ waiting) h h' =
        compare_step judging hash q nodes digests turns p place waiting
        ∙ onward_alike (sound_at judging nodes place) _ _ (λ (n : Node) (e : sound_at judging nodes place ≡ Ok n).
        choose_alike (goes_on_with p (string_in digests n)) _ _ _ (λ same.
        let read = bytes_taken p (string_in digests n) (drop (p.at + length (string_in digests n)) p.bytes) (goes_on_lem p (string_in digests n) same) in
        let some = string_some digests n in
        ap (λ (t : Result _ _). onward (guard (leb (length (waiting_after judging q n waiting)) most_waiting) StackFull) (λ _. t)) (comparing hash turns turns' (past p (string_in digests n)) (waiting_after judging q n waiting) (omega arith) (omega arith))))
        ∙ sym (compare_step judging hash q nodes digests turns' p place waiting)

  checking : (hash : List ℕ → List ℕ) (places turns turns' held step : ℕ) (p : Position) (waiting : List (List ℕ)) → bytes_left p < turns → bytes_left p < turns'
      → checked_from judging hash q places turns held step p waiting ≡ checked_from judging hash q places turns' held step p waiting
  checking hash places zero turns' held step p waiting h h' = absurd (omega arith)
  checking hash places (suc turns) zero held step p waiting h h' = absurd (omega arith)
  checking hash places (suc turns) (suc turns') held step p [] h h' = check_end judging hash q places turns held step p ∙ sym (check_end judging hash q places turns' held step p)
  checking hash places (suc turns) (suc turns') held step p (digest ∷ waiting) h h' =
      check_step judging hash q places turns held step p digest waiting
      ∙ onward_alike (string_checked judging hash q places held (suc step) p digest waiting) _ _ (λ (s : StringChecked) (e : string_checked judging hash q places held (suc step) p digest waiting ≡ Ok s).
      let tests = string_tests judging hash q places held (suc step) p digest waiting s e in
      let fewer = read_shortens p tests.shape s.seen tests.whole in
      ap (map_ok (one_more s)) (checking hash places turns turns' (held + how_many_in s.judgement.emits) (suc step) (record { bytes = p.bytes; at = s.seen.ends }) (digests_after s waiting) (omega arith) (omega arith)))
      ∙ sym (check_step judging hash q places turns' held step p digest waiting)

pub turns_suffice_lem : {Q : Type 0} (judging : Judging Q) → TurnsSuffice judging
turns_suffice_lem judging =
    record {
      proving = λ q nodes digests room turns waiting enough. proving judging q nodes digests turns (suc room) room waiting (omega arith) (omega arith);
      checking = λ hash q places turns root proof enough. checking judging q hash places turns (suc (length proof)) 0 0 (record { bytes = proof; at = 0 }) (root ∷ []) (omega arith) (omega arith);
      comparing = λ hash q nodes digests turns proof waiting enough. comparing judging q nodes digests hash turns (suc (length proof)) (record { bytes = proof; at = 0 }) waiting (omega arith) (omega arith);
    }
