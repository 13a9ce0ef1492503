-- What a prove answers, and what it leaves in the buffer, on any sheet.
use Rattle.std.specs.Prelude.{ℕ, zero, suc, ◌-◌, min, List, [], ◌∷◌, ◌++◌, length, replicate, Ok, Err, Result, nat_le}
use Rattle.std.specs.List.{flat_map}
use Rattle.refusal.specs.declared.Refusal.{Refusal}
use Rattle.refusal.specs.declared.Refusal.TheVariants.{QuestionOutOfBounds, SheetUnsound, ProofBufferFull, StackFull}
use Rattle.reader.specs.Reading.{onward, map_ok}
use Rattle.search.specs.declared.sheet.SheetRecord.{SheetRecord}
use Rattle.search.specs.Node.{Node}
use Rattle.search.specs.Judging.{Judging}
use Rattle.search.specs.Laws.{longest_proof}
use Rattle.search.specs.Walk.{waiting_after, most_waiting}
use Rattle.search.specs.Honest.{string_in}
use Rattle.calls.specs.declared.outcomes.Proved.{Proved}
use Rattle.calls.specs.Chain.{guard}
use Rattle.calls.specs.Sheets.{nodes_in, digests_on, is_count, sound_at}

-- The node at a place that is to be proved next: it is sound, its string fits in the room that is left, and no more wait after
-- it than may.
abbrev pub node_proved : {Q : Type 0} → Judging Q → Q → List Node → List (List ℕ) → ℕ → ℕ → List ℕ → Result Node Refusal
node_proved judging question nodes digests room place waiting =
    onward (sound_at judging nodes place) (λ node.
    onward (guard (nat_le (length (string_in digests node)) room) ProofBufferFull) (λ _.
    onward (guard (nat_le (length (waiting_after judging question node waiting)) most_waiting) StackFull) (λ _.
    Ok node)))

-- The strings of the nodes taken, in the order in which they are taken, while places wait. Each string has 4 bytes at least, so
-- more turns than the room has bytes are never needed.
unfoldable pub proved_from : {Q : Type 0} → Judging Q → Q → List Node → List (List ℕ) → ℕ → ℕ → List ℕ → Result (List (List ℕ)) Refusal
proved_from judging question nodes digests zero room waiting = Ok []
proved_from judging question nodes digests (suc turns) room [] = Ok []
proved_from judging question nodes digests (suc turns) room (place ∷ waiting) =
    onward (node_proved judging question nodes digests room place waiting) (λ node.
    map_ok (λ strings. string_in digests node ∷ strings)
    (proved_from judging question nodes digests turns (room - length (string_in digests node)) (waiting_after judging question node waiting)))

-- A proof has no more bytes than the buffer, and no more than any proof may have.
abbrev pub room_in : List ℕ → ℕ
room_in buffer = min (length buffer) longest_proof

-- The strings of the proof, or the first refusal.
abbrev pub proved_strings : {Q : Type 0} → Judging Q → List SheetRecord → ℕ → Q → List ℕ → Result (List (List ℕ)) Refusal
proved_strings judging sheet count question buffer =
    onward (guard (judging.is_within_bounds question) QuestionOutOfBounds) (λ _.
    onward (guard (is_count sheet count) SheetUnsound) (λ _.
    proved_from judging question (nodes_in judging sheet count) (digests_on sheet count) (suc (room_in buffer)) (room_in buffer) ((count - 1) ∷ [])))

-- Strings, joined.
abbrev pub all_bytes : List (List ℕ) → List ℕ
all_bytes strings = flat_map (λ string. string) strings

abbrev pub prove_answer : {Q : Type 0} → Judging Q → List SheetRecord → ℕ → Q → List ℕ → Result Proved Refusal
prove_answer judging sheet count question buffer =
    map_ok (λ strings. record { strings = length strings; bytes = length (all_bytes strings) }) (proved_strings judging sheet count question buffer)

-- Bytes from the first place on, and 0 in every place after them.
abbrev pub zeros_after : List ℕ → List ℕ → List ℕ
zeros_after buffer bytes = bytes ++ replicate (length buffer - length bytes) 0

-- The buffer afterwards: the proof and zeros after it, or zeros alone.
abbrev pub buffer_with : List ℕ → Result (List (List ℕ)) Refusal → List ℕ
buffer_with buffer (Ok strings) = zeros_after buffer (all_bytes strings)
buffer_with buffer (Err refusal) = zeros_after buffer []

abbrev pub prove_buffer : {Q : Type 0} → Judging Q → List SheetRecord → ℕ → Q → List ℕ → List ℕ
prove_buffer judging sheet count question buffer = buffer_with buffer (proved_strings judging sheet count question buffer)
