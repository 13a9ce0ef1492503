-- What the outcomes of the calls mean: walks of what a sheet shows, honest proofs, and collisions of the hash.
use Rattle.std.specs.Prelude.{◌≡◌, ℕ, suc, ◌^◌, ◌<◌, ◌≤◌, true, List, [], ◌∷◌, map, length, ℤ, Some, Ok, Err, Option, Result}
use Rattle.std.specs.List.{slice_get, AllByRecursion}
use Rattle.refusal.specs.declared.Refusal.{Refusal}
use Rattle.node.specs.declared.shape.Shape.{Shape}
use Rattle.reader.specs.RoundTrips.{IsInt}
use Rattle.reader.specs.Parts.{part}
use Rattle.search.specs.declared.sheet.SheetRecord.{SheetRecord}
use Rattle.search.specs.Node.{Node}
use Rattle.search.specs.Judging.{Judging, Judgeable}
use Rattle.search.specs.Figure.{IsFigure, root_of}
use Rattle.search.specs.Sheet.{usable}
use Rattle.search.specs.Laws.{JudgesWell, Answers, longest_proof}
use Rattle.search.specs.Walk.{WalkFromRoot, most_waiting}
use Rattle.search.specs.Honest.{string_in, strings_of, digests_of, IsHonest, HasDigests}
use Rattle.calls.specs.declared.outcomes.Checked.{Checked}
use Rattle.calls.specs.declared.outcomes.Comparison.{Comparison}
use Rattle.calls.specs.declared.outcomes.Comparison.TheVariants.{Same, Difference, Clash}
use Rattle.calls.specs.Sheets.{nodes_in, digests_on, is_count}
use Rattle.calls.specs.Publishing.{published_sheet, root_in}
use Rattle.calls.specs.Proving.{proved_from, proved_strings, prove_answer, prove_buffer, zeros_after}
use Rattle.calls.specs.Checking.{checked_from, check_answer, check_buffer}
use Rattle.calls.specs.Comparing.{compared_from, compare_answer}

-- A walk of the nodes that a sheet shows, and the strings of the nodes that it visits.
pub record IsWalkOfSheet {Q : Type 0} (judging : Judging Q) (sheet : List SheetRecord) (count : ℕ) (question : Q) (strings : List (List ℕ)) : Type 0 where
  pub visited : List Node
  pub emitted : List ℕ
  pub walk : WalkFromRoot judging question most_waiting (nodes_in judging sheet count) visited emitted
  pub are : strings ≡ map (string_in (digests_on sheet count)) visited

-- The strings of an accepted prove are those of the nodes that a walk of the sheet visits, in its order, whoever wrote the sheet.
abbrev pub ProofsAreWalks : {Q : Type 0} → Judging Q → Type 0
ProofsAreWalks {Q} judging =
    (sheet : List SheetRecord) (count : ℕ) (question : Q) (buffer : List ℕ) (strings : List (List ℕ))
    → proved_strings judging sheet count question buffer ≡ Ok strings → IsWalkOfSheet judging sheet count question strings

-- A published sheet shows the figure and its digests, and its last counted digest is the root.
pub record ShowsFigure {Q : Type 0} (judging : Judging Q) (hash : List ℕ → List ℕ) (figure : List Node) (sheet : List SheetRecord) : Type 0 where
  pub nodes : nodes_in judging sheet (length figure) ≡ figure
  pub digests : digests_on sheet (length figure) ≡ digests_of hash figure
  pub counted : is_count sheet (length figure) ≡ true
  pub root : root_in sheet (length figure) ≡ slice_get (digests_of hash figure) (root_of figure)

abbrev pub PublishedSheetsShowTheirFigure : {Q : Type 0} → Judging Q → Type 0
PublishedSheetsShowTheirFigure judging =
    (hash : List ℕ → List ℕ) (figure : List Node) (sheet : List SheetRecord)
    → JudgesWell judging → IsFigure judging figure → length figure ≤ usable sheet → ShowsFigure judging hash figure (published_sheet hash figure sheet)

-- What a string can hold: known kinds and fit numbers have 32 bits.
pub record HasSmallNodes {Q : Type 0} (judging : Judging Q) : Type 0 where
  pub small_kinds : (kind : ℕ) (shape : Shape) → judging.shape_of kind ≡ Some shape → kind < 2 ^ 32
  pub small_numbers : (kind : ℕ) (numbers : List ℤ) (shape : Shape) → Judgeable judging shape kind numbers → AllByRecursion IsInt numbers

-- The root of a figure.
abbrev pub root_of_figure : (List ℕ → List ℕ) → List Node → Option (List ℕ)
root_of_figure hash figure = slice_get (digests_of hash figure) (root_of figure)

-- A sheet that shows a figure proves exactly the honest proof, with zeros after it.
pub record IsWritten {Q : Type 0} (judging : Judging Q) (sheet : List SheetRecord) (count : ℕ) (question : Q) (buffer proof : List ℕ) : Type 0 where
  pub strings : ℕ
  pub answer : prove_answer judging sheet count question buffer ≡ Ok (record { strings = strings; bytes = length proof })
  pub after : prove_buffer judging sheet count question buffer ≡ zeros_after buffer proof

abbrev pub HonestProofsAreWritten : {Q : Type 0} → Judging Q → Type 0
HonestProofsAreWritten {Q} judging =
    (hash : List ℕ → List ℕ) (figure : List Node) (sheet : List SheetRecord) (question : Q) (buffer proof : List ℕ)
    → JudgesWell judging → HasDigests hash → IsFigure judging figure → ShowsFigure judging hash figure sheet
    → judging.is_within_bounds question ≡ true → IsHonest judging hash figure question proof
    → length proof ≤ longest_proof → length proof ≤ length buffer
    → IsWritten judging sheet (length figure) question buffer proof

-- The proof is accepted under the root of the figure, with the answer and zeros after it.
pub record IsAccepted {Q : Type 0} (judging : Judging Q) (hash : List ℕ → List ℕ) (root : Option (List ℕ)) (question : Q) (proof answers answer : List ℕ) : Type 0 where
  pub strings : ℕ
  pub accepted : check_answer judging hash root question proof answers ≡ Ok (record { numbers = length answer; strings = strings; bytes = length proof })
  pub after : check_buffer judging hash root question proof answers ≡ zeros_after answers answer

abbrev pub HonestProofsAreAccepted : {Q : Type 0} → Judging Q → Type 0
HonestProofsAreAccepted {Q} judging =
    (hash : List ℕ → List ℕ) (figure : List Node) (question : Q) (proof answers answer : List ℕ)
    → JudgesWell judging → HasSmallNodes judging → HasDigests hash → IsFigure judging figure → Answers judging figure question answer
    → judging.is_within_bounds question ≡ true → IsHonest judging hash figure question proof
    → length proof ≤ longest_proof → length answer ≤ length answers
    → IsAccepted judging hash (root_of_figure hash figure) question proof answers answer

-- A cross-check that answers a clash.
abbrev pub IsClash : Result Comparison Refusal → Type 0
IsClash (Ok Same) = ⊥
IsClash (Ok (Difference place byte)) = ⊥
IsClash (Ok (Clash place byte)) = Unit {0}
IsClash (Err refusal) = ⊥

-- What is accepted under the root of a figure, though a cross-check with a sheet that shows the figure answers no clash, is the
-- honest proof and the answer.
abbrev pub AcceptedProofsAreHonest : {Q : Type 0} → Judging Q → Type 0
AcceptedProofsAreHonest {Q} judging =
    (hash : List ℕ → List ℕ) (figure : List Node) (sheet : List SheetRecord) (question : Q) (proof answers answer : List ℕ) (checked : Checked)
    → JudgesWell judging → HasSmallNodes judging → HasDigests hash → IsFigure judging figure → ShowsFigure judging hash figure sheet → Answers judging figure question answer
    → check_answer judging hash (root_of_figure hash figure) question proof answers ≡ Ok checked
    → (IsClash (compare_answer judging hash sheet (length figure) question proof) → ⊥)
    → IsHonest judging hash figure question proof × IsAccepted judging hash (root_of_figure hash figure) question proof answers answer

-- A clash names two unequal strings of one digest: that of the node at its place, and one that stands in the proof at its byte.
pub record IsCollision {Q : Type 0} (judging : Judging Q) (hash : List ℕ → List ℕ) (sheet : List SheetRecord) (count : ℕ) (proof : List ℕ) (place byte : ℕ) : Type 0 where
  pub node : Node
  pub there : slice_get (nodes_in judging sheet count) place ≡ Some node
  pub other : List ℕ
  pub stands : other ≡ part proof byte (length other)
  pub unequal : string_in (digests_on sheet count) node ≡ other → ⊥
  pub one_digest : hash (string_in (digests_on sheet count) node) ≡ hash other

abbrev pub ClashesAreCollisions : {Q : Type 0} → Judging Q → Type 0
ClashesAreCollisions {Q} judging =
    (hash : List ℕ → List ℕ) (sheet : List SheetRecord) (count : ℕ) (question : Q) (proof : List ℕ) (place byte : ℕ)
    → compare_answer judging hash sheet count question proof ≡ Ok (Clash place byte)
    → IsCollision judging hash sheet count proof place byte

-- A proof that is the same is the strings of a walk of the sheet, joined.
abbrev pub SameProofsAreWalks : {Q : Type 0} → Judging Q → Type 0
SameProofsAreWalks {Q} judging =
    (hash : List ℕ → List ℕ) (sheet : List SheetRecord) (count : ℕ) (question : Q) (proof : List ℕ)
    → compare_answer judging hash sheet count question proof ≡ Ok Same
    → (visited : List Node) × (emitted : List ℕ) × WalkFromRoot judging question most_waiting (nodes_in judging sheet count) visited emitted × (proof ≡ strings_of (digests_on sheet count) visited)

-- More turns than there are bytes change nothing, so every call ends by itself.
pub record TurnsSuffice {Q : Type 0} (judging : Judging Q) : Type 0 where
  pub proving : (question : Q) (nodes : List Node) (digests : List (List ℕ)) (room turns : ℕ) (waiting : List ℕ)
      → suc room ≤ turns → proved_from judging question nodes digests turns room waiting ≡ proved_from judging question nodes digests (suc room) room waiting
  pub checking : (hash : List ℕ → List ℕ) (question : Q) (places turns : ℕ) (root proof : List ℕ)
      → suc (length proof) ≤ turns → checked_from judging hash question places turns 0 0 (record { bytes = proof; at = 0 }) (root ∷ [])
      ≡ checked_from judging hash question places (suc (length proof)) 0 0 (record { bytes = proof; at = 0 }) (root ∷ [])
  pub comparing : (hash : List ℕ → List ℕ) (question : Q) (nodes : List Node) (digests : List (List ℕ)) (turns : ℕ) (proof waiting : List ℕ)
      → suc (length proof) ≤ turns → compared_from judging hash question nodes digests turns (record { bytes = proof; at = 0 }) waiting
      ≡ compared_from judging hash question nodes digests (suc (length proof)) (record { bytes = proof; at = 0 }) waiting
