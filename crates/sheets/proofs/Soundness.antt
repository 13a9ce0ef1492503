-- What is known of a node that is read from a sound record.
use Rattle.std.proofs.Common.{◌≡◌, ℕ, true, length, take, Some, arith}
use Rattle.std.proofs.lemmas.List.{length-take-le}
use Rattle.node.specs.declared.shape.Shape.{Shape}
use Rattle.search.specs.declared.sheet.SheetRecord.{SheetRecord}
use Rattle.search.specs.Judging.{Judging}
use Rattle.search.specs.Laws.{JudgesWell}
use Rattle.calls.specs.Sheets.{all_before}
use Rattle.sheets.specs.declared.reading.SheetNode.{SheetNode}
use Rattle.sheets.specs.Nodes.{IsRead}
use Rattle.sheets.proofs.Earlier.{each_before}

-- the node that a record shows where its kind has a shape
abbrev pub shown_as : SheetRecord → Shape → SheetNode
shown_as r shape = record { kind = r.kind; shape = shape; numbers = r.numbers; successors = r.successors }

module _ {Q : Type 0} (judging : Judging Q) (place : ℕ) (r : SheetRecord) (shape : Shape) (known : judging.shape_of r.kind ≡ Some shape) where
  pub is_read : JudgesWell judging → length r.numbers ≡ 4 → length r.successors ≡ 3
      → judging.is_fit r.kind (take shape.numbers r.numbers) ≡ true → all_before place (take shape.successors r.successors) ≡ true
      → IsRead judging place (shown_as r shape)
  is_read well four three fit before =
      record {
        judgeable = record { known = known; counted = length-take-le shape.numbers r.numbers (omega (arith, well.few_numbers r.kind shape known)); fit = fit };
        joined = length-take-le shape.successors r.successors (omega (arith, well.few_successors r.kind shape known));
        before = each_before place (take shape.successors r.successors) before;
      }
