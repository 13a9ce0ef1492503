-- What a check answers, and what it leaves in the buffer for answers, on any bytes.
use Rattle.std.specs.Prelude.{ℕ, zero, suc, ◌+◌, Bool, true, leb, List, [], ◌∷◌, length, Some, None, Ok, Err, Option, Result, ◌==◌, nat_le, nat_lt}
use Rattle.std.specs.Str.{bytes_eq}
use Rattle.refusal.specs.declared.Refusal.{Refusal}
use Rattle.refusal.specs.declared.Refusal.TheVariants.{RootLength}
use Rattle.slices.specs.Order.{sorted}
use Rattle.reader.specs.declared.fault.ReaderFault.{ReaderFault}
use Rattle.reader.specs.Parts.{numbers_in, digests_in}
use Rattle.reader.specs.Views.{StringSeen}
use Rattle.reader.specs.Reading.{Position, map_ok, onward, opened, read_kind, read_string, finished}
use Rattle.fault.specs.declared.layers.HashFault.{HashFault}
use Rattle.fault.specs.declared.layers.HashFault.TheVariants.{DigestMismatch}
use Rattle.fault.specs.declared.layers.SearchFault.{SearchFault}
use Rattle.fault.specs.declared.layers.SearchFault.TheVariants.{QuestionOutOfBounds, NoRootAdopted, KindNotKnown, NumbersUnfit, StackFull}
use Rattle.fault.specs.declared.layers.AnswerFault.{AnswerFault}
use Rattle.fault.specs.declared.layers.AnswerFault.TheVariants.{BufferFull}
use Rattle.fault.specs.declared.report.Fault.{Fault}
use Rattle.fault.specs.Carrying.{carried, from_reader, from_search, from_reader_at_step, from_hash_at_string, from_search_at_string, from_answer_at_string}
use Rattle.search.specs.Judging.{Judging, Judgement}
use Rattle.search.specs.Picks.{ahead}
use Rattle.search.specs.Walk.{onto, most_waiting}
use Rattle.calls.specs.declared.outcomes.Checked.{Checked}
use Rattle.calls.specs.Chain.{guard, found}
use Rattle.calls.specs.Proving.{zeros_after}

-- A fault of each layer at the string that is read as a step and begins at a byte place.
abbrev pub reader_at : ℕ → ReaderFault → Fault
reader_at step e = from_reader_at_step (record { step = step; fault = e })

abbrev pub hash_at : ℕ → ℕ → HashFault → Fault
hash_at step begins e = from_hash_at_string (record { step = step; begins = begins; fault = e })

abbrev pub search_at : ℕ → ℕ → SearchFault → Fault
search_at step begins e = from_search_at_string (record { step = step; begins = begins; fault = e })

abbrev pub answer_at : ℕ → ℕ → AnswerFault → Fault
answer_at step begins e = from_answer_at_string (record { step = step; begins = begins; fault = e })

-- A number emitted asks for one more place.
abbrev pub has_place_for : ℕ → ℕ → Option ℕ → Bool
has_place_for taken places None = true
has_place_for taken places (Some number) = nat_lt taken places

abbrev pub how_many_in : Option ℕ → ℕ
how_many_in None = 0
how_many_in (Some number) = 1

-- A string that passed every test, and its judgement.
pub record StringChecked : Type 0 where
  pub seen : StringSeen
  pub judgement : Judgement

-- The digests that wait once a string is read.
abbrev pub digests_after : StringChecked → List (List ℕ) → List (List ℕ)
digests_after s waiting = onto (digests_in s.seen.successors) s.judgement.ways waiting

abbrev pub judged_as : {Q : Type 0} → Judging Q → Q → StringSeen → StringChecked
judged_as judging question seen = record { seen = seen; judgement = judging.judge question seen.kind (numbers_in seen.numbers) }

-- The next string of the proof, read as a step where a digest is looked for while others wait: the bytes do not end inside its
-- kind, the kind is known, the bytes do not end inside the rest, it has the digest looked for, its numbers are fit, there is a
-- place for the number that it emits, and no more wait after it than may.
abbrev pub string_checked : {Q : Type 0} → Judging Q → (List ℕ → List ℕ) → Q → ℕ → ℕ → ℕ → Position → List ℕ → List (List ℕ) → Result StringChecked Fault
string_checked judging hash question places taken step p digest waiting =
    carried (reader_at step) (read_kind p) (λ kind.
    carried (search_at step p.at) (found (judging.shape_of kind) (KindNotKnown kind)) (λ shape.
    carried (reader_at step) (read_string p shape) (λ seen.
    carried (hash_at step p.at) (guard (bytes_eq (hash seen.string) digest) DigestMismatch) (λ _.
    carried (search_at step p.at) (guard (judging.is_fit kind (numbers_in seen.numbers)) (NumbersUnfit kind)) (λ _.
    carried (answer_at step p.at) (guard (has_place_for taken places (judged_as judging question seen).judgement.emits) (BufferFull places)) (λ _.
    carried (search_at step p.at) (guard (nat_le (length (digests_after (judged_as judging question seen) waiting)) most_waiting) StackFull) (λ _.
    Ok (judged_as judging question seen))))))))

-- What was emitted, in the order of the strings, and how many strings and bytes there were.
pub record ProofRead : Type 0 where
  pub emitted : List ℕ
  pub strings : ℕ
  pub bytes : ℕ

abbrev pub no_more : Position → ProofRead
no_more p = record { emitted = []; strings = 0; bytes = p.at }

abbrev pub one_more : StringChecked → ProofRead → ProofRead
one_more s rest = record { emitted = ahead s.judgement.emits rest.emitted; strings = suc rest.strings; bytes = rest.bytes }

-- The proof read from a position on, while digests wait; so many numbers are emitted and so many strings read before. Each string
-- has 4 bytes at least, so more turns than the proof has bytes are never needed.
unfoldable pub checked_from : {Q : Type 0} → Judging Q → (List ℕ → List ℕ) → Q → ℕ → ℕ → ℕ → ℕ → Position → List (List ℕ) → Result ProofRead Fault
checked_from judging hash question places zero taken step p waiting = Ok (no_more p)
checked_from judging hash question places (suc turns) taken step p [] = carried (reader_at step) (finished p) (λ _. Ok (no_more p))
checked_from judging hash question places (suc turns) taken step p (digest ∷ waiting) =
    onward (string_checked judging hash question places taken (suc step) p digest waiting) (λ s.
    map_ok (one_more s)
    (checked_from judging hash question places turns (taken + how_many_in s.judgement.emits) (suc step) (record { bytes = p.bytes; at = s.seen.ends }) (digests_after s waiting)))

-- The whole proof, read against the adopted root if there is one, or the first fault.
abbrev pub proof_read : {Q : Type 0} → Judging Q → (List ℕ → List ℕ) → Option (List ℕ) → Q → List ℕ → ℕ → Result ProofRead Fault
proof_read judging hash root question proof places =
    carried from_search (found root NoRootAdopted) (λ digest.
    carried from_search (guard (judging.is_within_bounds question) QuestionOutOfBounds) (λ _.
    carried from_reader (opened proof) (λ p.
    checked_from judging hash question places (suc (length proof)) 0 0 p (digest ∷ []))))

abbrev pub check_answer : {Q : Type 0} → Judging Q → (List ℕ → List ℕ) → Option (List ℕ) → Q → List ℕ → List ℕ → Result Checked Fault
check_answer judging hash root question proof answers =
    map_ok (λ done. record { numbers = length done.emitted; strings = done.strings; bytes = done.bytes }) (proof_read judging hash root question proof (length answers))

-- The buffer afterwards: the numbers emitted, rising, and zeros after them, or zeros alone.
abbrev pub answers_with : List ℕ → Result ProofRead Fault → List ℕ
answers_with answers (Ok done) = zeros_after answers (sorted leb done.emitted)
answers_with answers (Err fault) = zeros_after answers []

abbrev pub check_buffer : {Q : Type 0} → Judging Q → (List ℕ → List ℕ) → Option (List ℕ) → Q → List ℕ → List ℕ → List ℕ
check_buffer judging hash root question proof answers = answers_with answers (proof_read judging hash root question proof (length answers))

-- A root has 32 bytes. Any other is refused, and leaves the adopted one.
abbrev pub adopt_answer : List ℕ → Result (Unit {0}) Refusal
adopt_answer root = guard (length root == 32) RootLength

abbrev pub adopted_by : Option (List ℕ) → List ℕ → Result (Unit {0}) Refusal → Option (List ℕ)
adopted_by before root (Ok _) = Some root
adopted_by before root (Err refusal) = before

abbrev pub adopted_root : Option (List ℕ) → List ℕ → Option (List ℕ)
adopted_root before root = adopted_by before root (adopt_answer root)
