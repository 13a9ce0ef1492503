-- What the calls of a command print.
use Rattle.std.specs.Prelude.{ℕ, List, [], ◌∷◌, ◌++◌, length, replicate, pos, Ok, Err, Option, Result, nat_le}
use Rattle.std.specs.Option.{unwrap_or}
use Rattle.refusal.specs.declared.Refusal.{Refusal}
use Rattle.slices.specs.Order.{sorted}
use Rattle.fault.specs.declared.report.Fault.{Fault}
use Rattle.search.specs.declared.sheet.SheetRecord.{SheetRecord}
use Rattle.search.specs.Node.{Node}
use Rattle.search.specs.Judging.{Judging}
use Rattle.search.specs.Sheet.{drawn_count}
use Rattle.calls.specs.declared.outcomes.Checked.{Checked}
use Rattle.calls.specs.declared.outcomes.Comparison.{Comparison}
use Rattle.calls.specs.Publishing.{published_records, root_in}
use Rattle.calls.specs.Proving.{proved_strings, all_bytes}
use Rattle.calls.specs.Checking.{ProofRead, proof_read}
use Rattle.calls.specs.Comparing.{compare_answer}
use Rattle.script.specs.declared.command.ChartKind.{ChartKind}
use Rattle.script.specs.declared.reply.Reply.TheVariants.{Refused}
use Rattle.script.specs.Lines.{line_of}
use Rattle.call_commands.specs.Lines.{line_of_published, line_of_adopted, line_of_proof, line_of_checked, line_of_fault, line_of_comparison, line_of_asked}

-- The line of a refused call.
abbrev pub refused_line : Refusal → List ℕ
refused_line refusal = line_of (Refused refusal)

-- A record that is zero in every field; a publish gets a sheet of them.
abbrev pub zero_record : SheetRecord
zero_record = record { kind = 0; numbers = replicate 4 (pos 0); successors = replicate 3 0; digest = replicate 32 0 }

abbrev pub fresh_sheet : ℕ → List SheetRecord
fresh_sheet room = replicate room zero_record

-- How many records there are, and the root, which is the digest of the last.
abbrev pub published_line : List SheetRecord → Result ℕ Refusal → List ℕ
published_line records (Ok count) = line_of_published count (unwrap_or (root_in records count) [])
published_line records (Err refusal) = refused_line refusal

abbrev pub publish_prints : (List ℕ → List ℕ) → List Node → ℕ → List ℕ
publish_prints hash figure room = published_line (published_records hash figure) (drawn_count figure (fresh_sheet room))

-- The counted records of every accepted publish are kept, the oldest first.
abbrev pub kept_with : List (List SheetRecord) → List SheetRecord → Result ℕ Refusal → List (List SheetRecord)
kept_with kept records (Ok count) = kept ++ records ∷ []
kept_with kept records (Err refusal) = kept

abbrev pub publish_keeps : (List ℕ → List ℕ) → List Node → ℕ → List (List SheetRecord) → List (List SheetRecord)
publish_keeps hash figure room kept = kept_with kept (published_records hash figure) (drawn_count figure (fresh_sheet room))

-- An adopted root, or the refusal.
abbrev pub adopt_prints : List ℕ → Result (Unit {0}) Refusal → List ℕ
adopt_prints root (Ok _) = line_of_adopted root
adopt_prints root (Err refusal) = refused_line refusal

abbrev pub proof_line : Result (List (List ℕ)) Refusal → List ℕ
proof_line (Ok strings) = line_of_proof (all_bytes strings)
proof_line (Err refusal) = refused_line refusal

-- A sheet in use has just its counted records.
abbrev pub prove_prints : {Q : Type 0} → Judging Q → List SheetRecord → Q → ℕ → List ℕ
prove_prints judging sheet question room = proof_line (proved_strings judging sheet (length sheet) question (replicate room 0))

abbrev pub counts_in : ProofRead → Checked
counts_in done = record { numbers = length done.emitted; strings = done.strings; bytes = done.bytes }

abbrev pub checked_line : ChartKind → Result ProofRead Fault → List ℕ
checked_line kind (Ok done) = line_of_checked kind (sorted nat_le done.emitted) (counts_in done)
checked_line kind (Err fault) = line_of_fault fault

abbrev pub check_prints : {Q : Type 0} → ChartKind → Judging Q → (List ℕ → List ℕ) → Option (List ℕ) → Q → List ℕ → ℕ → List ℕ
check_prints kind judging hash root question proof room = checked_line kind (proof_read judging hash root question proof room)

abbrev pub compared_line : Result Comparison Refusal → List ℕ
compared_line (Ok comparison) = line_of_comparison comparison
compared_line (Err refusal) = refused_line refusal

abbrev pub compare_prints : {Q : Type 0} → Judging Q → (List ℕ → List ℕ) → List SheetRecord → Q → List ℕ → List ℕ
compare_prints judging hash sheet question proof = compared_line (compare_answer judging hash sheet (length sheet) question proof)

-- Prove, check and cross-check in turn: the first refusal, or what check and cross-check answer.
abbrev pub compared_after : ChartKind → ProofRead → Result Comparison Refusal → List ℕ
compared_after kind done (Ok comparison) = line_of_asked kind (sorted nat_le done.emitted) (counts_in done) comparison
compared_after kind done (Err refusal) = refused_line refusal

abbrev pub checked_after : ChartKind → Result ProofRead Fault → Result Comparison Refusal → List ℕ
checked_after kind (Ok done) comparison = compared_after kind done comparison
checked_after kind (Err fault) comparison = line_of_fault fault

abbrev pub proved_after : {Q : Type 0} → ChartKind → Judging Q → (List ℕ → List ℕ) → Option (List ℕ) → List SheetRecord → Q → Result (List (List ℕ)) Refusal → List ℕ
proved_after kind judging hash root sheet question (Ok strings) =
    checked_after kind (proof_read judging hash root question (all_bytes strings) 128) (compare_answer judging hash sheet (length sheet) question (all_bytes strings))
proved_after kind judging hash root sheet question (Err refusal) = refused_line refusal

abbrev pub ask_prints : {Q : Type 0} → ChartKind → Judging Q → (List ℕ → List ℕ) → Option (List ℕ) → List SheetRecord → Q → List ℕ
ask_prints kind judging hash root sheet question =
    proved_after kind judging hash root sheet question (proved_strings judging sheet (length sheet) question (replicate 65535 0))
