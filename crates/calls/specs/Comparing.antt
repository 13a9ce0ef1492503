-- What a cross-check answers, on any sheet and any bytes.
use Rattle.std.specs.Prelude.{ℕ, zero, suc, ◌+◌, ◌-◌, Bool, false, cond, List, [], ◌∷◌, length, Ok, Err, Result, nat_le, nat_lt}
use Rattle.std.specs.Str.{bytes_eq}
use Rattle.refusal.specs.declared.Refusal.{Refusal}
use Rattle.refusal.specs.declared.Refusal.TheVariants.{QuestionOutOfBounds, ProofTooLong, SheetUnsound, StackFull, KindNotKnown}
use Rattle.reader.specs.Parts.{part}
use Rattle.reader.specs.Reading.{Position, onward, read_kind, read_string, bytes_left, longest_proof}
use Rattle.fault.specs.Carrying.{carried}
use Rattle.fault.specs.Layers.{refusal_of_reader}
use Rattle.search.specs.declared.sheet.SheetRecord.{SheetRecord}
use Rattle.search.specs.Node.{Node}
use Rattle.search.specs.Judging.{Judging}
use Rattle.search.specs.Figure.{root_of}
use Rattle.search.specs.Walk.{waiting_after, most_waiting}
use Rattle.search.specs.Honest.{string_in}
use Rattle.calls.specs.declared.outcomes.Comparison.{Comparison}
use Rattle.calls.specs.declared.outcomes.Comparison.TheVariants.{Same, Difference, Clash}
use Rattle.calls.specs.Chain.{guard, found, choose}
use Rattle.calls.specs.Sheets.{nodes_in, digests_on, is_count, sound_at}

-- The proof goes on with a string.
abbrev pub goes_on_with : Position → List ℕ → Bool
goes_on_with p string = bytes_eq (part p.bytes p.at (length string)) string

abbrev pub past : Position → List ℕ → Position
past p string = record { bytes = p.bytes; at = p.at + length string }

-- The whole string of a known kind that stands at a position, if one does.
abbrev pub string_there : {Q : Type 0} → Judging Q → Position → Result (List ℕ) Refusal
string_there judging p =
    carried refusal_of_reader (read_kind p) (λ kind.
    onward (found (judging.shape_of kind) KindNotKnown) (λ shape.
    carried refusal_of_reader (read_string p shape) (λ seen.
    Ok seen.string)))

-- It has the digest of another string. Both digests are computed, none is taken from a sheet.
abbrev pub has_digest_of : (List ℕ → List ℕ) → List ℕ → Result (List ℕ) Refusal → Bool
has_digest_of hash string (Ok there) = bytes_eq (hash there) (hash string)
has_digest_of hash string (Err refusal) = false

-- How a proof differs that does not go on with the string of the node at a place.
abbrev pub differs_at : {Q : Type 0} → Judging Q → (List ℕ → List ℕ) → ℕ → List ℕ → Position → Comparison
differs_at judging hash place string p =
    cond (has_digest_of hash string (string_there judging p)) (Clash place p.at) (Difference place p.at)

-- Bytes left over differ from what the root's record proves.
abbrev pub differs_at_end : ℕ → Position → Comparison
differs_at_end root p = cond (nat_lt 0 (bytes_left p)) (Difference root p.at) Same

-- The proof compared from a position on, while places wait. Each string has 4 bytes at least, so more turns than the proof has
-- bytes are never needed.
unfoldable pub compared_from : {Q : Type 0} → Judging Q → (List ℕ → List ℕ) → Q → List Node → List (List ℕ) → ℕ → Position → List ℕ → Result Comparison Refusal
compared_from judging hash question nodes digests zero p waiting = Ok Same
compared_from judging hash question nodes digests (suc turns) p [] = Ok (differs_at_end (root_of nodes) p)
compared_from judging hash question nodes digests (suc turns) p (place ∷ waiting) =
    onward (sound_at judging nodes place) (λ node.
    choose (goes_on_with p (string_in digests node))
    (λ _.
    onward (guard (nat_le (length (waiting_after judging question node waiting)) most_waiting) StackFull) (λ _.
    compared_from judging hash question nodes digests turns (past p (string_in digests node)) (waiting_after judging question node waiting)))
    (λ _. Ok (differs_at judging hash place (string_in digests node) p)))

abbrev pub compare_answer : {Q : Type 0} → Judging Q → (List ℕ → List ℕ) → List SheetRecord → ℕ → Q → List ℕ → Result Comparison Refusal
compare_answer judging hash sheet count question proof =
    onward (guard (judging.is_within_bounds question) QuestionOutOfBounds) (λ _.
    onward (guard (nat_le (length proof) longest_proof) ProofTooLong) (λ _.
    onward (guard (is_count sheet count) SheetUnsound) (λ _.
    compared_from judging hash question (nodes_in judging sheet count) (digests_on sheet count) (suc (length proof)) (record { bytes = proof; at = 0 }) ((count - 1) ∷ []))))
