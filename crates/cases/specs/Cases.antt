-- The worked cases of the rules: what they say, and whether the definitions agree.
use Rattle.std.specs.Prelude.{◌≡◌, ℕ, Bool, true, false, cond, ◌&&◌, List, [], ◌∷◌, ◌++◌, reverse, length, take, replicate, pos, Some, None, Ok, Err, Option, Result, ◌==◌, nat_le}
use Rattle.std.specs.Str.{bytes_eq}
use Rattle.refusal.specs.declared.Refusal.{Refusal}
use Rattle.refusal.specs.Table as table
use Rattle.records.specs.declared.raw.EdgeRecord.{EdgeRecord}
use Rattle.records.specs.declared.raw.SiteRecord.{SiteRecord}
use Rattle.records.specs.declared.raw.Point.{Point}
use Rattle.records.specs.declared.raw.Rectangle.{Rectangle}
use Rattle.fault.specs.declared.report.Fault.{Fault}
use Rattle.search.specs.declared.sheet.SheetRecord.{SheetRecord}
use Rattle.search.specs.Judging.{Judging}
use Rattle.search.specs.Drawing.{Drawing}
use Rattle.calls.specs.declared.outcomes.Comparison.{Comparison}
use Rattle.calls.specs.declared.outcomes.Comparison.TheVariants.{Same, Difference, Clash}
use Rattle.calls.specs.Publishing.{published_sheet, root_in}
use Rattle.calls.specs.Proving.{proved_strings, all_bytes}
use Rattle.calls.specs.Checking.{proof_read, ProofRead}
use Rattle.calls.specs.Comparing.{compare_answer}
use Rattle.slices.specs.Order.{sorted}
use Rattle.zone_figure.specs.Judge.{zone_judging}
use Rattle.zone_figure.specs.Figure.{zone_drawing}
use Rattle.site_figure.specs.Judge.{site_judging}
use Rattle.site_figure.specs.Figure.{site_drawing}

-- How many records, strings and bytes there are does not depend on the hash. This one keeps the last 32 bytes of a string.
abbrev pub last_bytes : List ℕ → List ℕ
last_bytes string = take 32 (reverse string ++ replicate 32 0)

-- A sheet of 16 records, all zero.
abbrev pub zero_record : SheetRecord
zero_record = record { kind = 0; numbers = replicate 4 (pos 0); successors = replicate 3 0; digest = replicate 32 0 }

abbrev pub empty_sheet : List SheetRecord
empty_sheet = replicate 16 zero_record

abbrev pub buffer : List ℕ
buffer = replicate 400 0

-- A question with its answer, and how many strings and bytes its honest proof has.
pub record Asked (Q : Type 0) : Type 0 where
  pub question : Q
  pub answer : List ℕ
  pub strings : ℕ
  pub bytes : ℕ

-- Held records, how many records their figure has, the questions, and records that are refused beside them, by which number, or
-- added (0).
pub record Worked (R Q : Type 0) : Type 0 where
  pub held : List R
  pub records : ℕ
  pub asked : List (Asked Q)
  pub beside : List (R × ℕ)

abbrev pub refusal_number : Option Refusal → ℕ
refusal_number None = 0
refusal_number (Some refusal) = table.number_of refusal

module _ {R Q : Type 0} (judging : Judging Q) (drawing : Drawing R Q) (held : List R) where
  abbrev count : ℕ
  count = length (drawing.figure held)

  abbrev sheet : List SheetRecord
  sheet = published_sheet last_bytes (drawing.figure held) empty_sheet

  -- The proof has that many strings and bytes; checked, it is read whole and emits the answer; compared, it is the same.
  abbrev read_as : Asked Q → Result ProofRead Fault → Bool
  read_as asked (Err fault) = false
  read_as asked (Ok done) =
      bytes_eq (sorted nat_le done.emitted) asked.answer && (done.strings == asked.strings && done.bytes == asked.bytes)

  abbrev is_same : Result Comparison Refusal → Bool
  is_same (Ok Same) = true
  is_same (Ok (Difference place byte)) = false
  is_same (Ok (Clash place byte)) = false
  is_same (Err refusal) = false

  abbrev proved_as : Asked Q → Result (List (List ℕ)) Refusal → Bool
  proved_as asked (Err refusal) = false
  proved_as asked (Ok strings) =
      (length strings == asked.strings) && (length (all_bytes strings) == asked.bytes
      && (read_as asked (proof_read judging last_bytes (root_in sheet count) asked.question (all_bytes strings) 128)
      && is_same (compare_answer judging last_bytes sheet count asked.question (all_bytes strings))))

  abbrev pub is_answered : Asked Q → Bool
  is_answered asked =
      bytes_eq (drawing.answer held asked.question) asked.answer
      && proved_as asked (proved_strings judging sheet count asked.question buffer)

-- The questions that are not answered as the case says.
abbrev pub unanswered : {R Q : Type 0} → Judging Q → Drawing R Q → List R → List (Asked Q) → List (Asked Q)
unanswered judging drawing held [] = []
unanswered judging drawing held (asked ∷ others) =
    let rest = unanswered judging drawing held others in
    cond (is_answered judging drawing held asked) rest (asked ∷ rest)

-- The records that are added or refused otherwise.
abbrev pub misjudged : {R Q : Type 0} → Drawing R Q → List R → List (R × ℕ) → List (R × ℕ)
misjudged drawing held [] = []
misjudged drawing held (r ∷ others) =
    let rest = misjudged drawing held others in
    cond (refusal_number (drawing.add_refusal held r.0) == r.1) rest (r ∷ rest)

-- The definitions agree with a case in all its parts.
pub record Holds {R Q : Type 0} (judging : Judging Q) (drawing : Drawing R Q) (worked : Worked R Q) : Type 0 where
  pub size : length (drawing.figure worked.held) ≡ worked.records
  pub answers : unanswered judging drawing worked.held worked.asked ≡ []
  pub additions : misjudged drawing worked.held worked.beside ≡ []

abbrev edge : ℕ → ℕ → ℕ → ℕ → ℕ → ℕ → EdgeRecord
edge number x1 y1 x2 y2 zone =
    record { number = pos number; x1 = pos x1; y1 = pos y1; x2 = pos x2; y2 = pos y2; zone = pos zone }

abbrev at : ℕ → ℕ → ℕ → ℕ → ℕ → Asked Point
at x y zone strings bytes =
    record { question = record { x = pos x; y = pos y }; answer = zone ∷ []; strings = strings; bytes = bytes }

-- Two boundaries start at one corner stone, (0, 0).
abbrev pub corner_stones : Worked EdgeRecord Point
corner_stones =
    record {
      held = edge 1 0 0 100 0 5 ∷ edge 2 0 0 100 100 7 ∷ edge 3 0 200 100 200 0 ∷ [];
      records = 8;
      asked = at 0 0 7 5 320 ∷ at 50 50 7 5 320 ∷ at 50 49 5 5 320 ∷ at 50 200 0 5 320 ∷ at 100 0 0 2 80 ∷ [];
      beside = (edge 4 0 100 100 0 9, 3) ∷ (edge 4 0 0 50 50 9, 3) ∷ (edge 4 50 50 100 60 9, 0) ∷ [];
    }

abbrev site : ℕ → ℕ → ℕ → SiteRecord
site number x y = record { number = pos number; x = pos x; y = pos y }

abbrev within : ℕ → ℕ → ℕ → ℕ → List ℕ → ℕ → ℕ → Asked Rectangle
within west east south north numbers strings bytes =
    record { question = record { west = pos west; east = pos east; south = pos south; north = pos north }; answer = numbers; strings = strings; bytes = bytes }

abbrev pub three_sites : Worked SiteRecord Rectangle
three_sites =
    record {
      held = site 1 10 10 ∷ site 2 20 10 ∷ site 3 20 30 ∷ [];
      records = 7;
      asked = within 0 100 0 15 (1 ∷ 2 ∷ []) 6 308 ∷ within 20 20 0 100 (2 ∷ 3 ∷ []) 5 264 ∷ [];
      beside = [];
    }

abbrev pub WorkedCasesHold : Type 0
WorkedCasesHold = Holds zone_judging zone_drawing corner_stones × Holds site_judging site_drawing three_sites
