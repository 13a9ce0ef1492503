-- The nodes of a figure of stones are of their kinds' shapes, whatever is held.
use Rattle.std.proofs.Common.{◌≡◌, ℕ, Bool, [], ◌∷◌, List, ℤ, pos, Some, None, Option, Result, ap, ◌∙◌, refl, sym}
use Rattle.node.specs.Kinds.{shaped}
use Rattle.records.specs.declared.record_number.RecordNumber.{RecordNumber}
use Rattle.refusal.specs.declared.Refusal.{Refusal}
use Rattle.search.specs.declared.drafting.Draft.{Draft}
use Rattle.search.specs.declared.sheet.SheetRecord.{SheetRecord}
use Rattle.search.specs.Drafting.{DrawsRecord, DrawsRose}
use Rattle.search.specs.Judging.{Judging}
use Rattle.search.specs.Rose.{Rose, leaf, two}
use Rattle.search.specs.Sheet.{record_of}
use Rattle.search.specs.Visit.{FitsWhole}
use Rattle.search.proofs.Shapes.{shapes_in}
use Rattle.search.proofs.Successors.{leaf_drawn}
use Rattle.toy_chart.specs.Stones.{judging, rose_of, listed}

abbrev pub stone_shapes : Judging Bool
stone_shapes = shapes_in judging

pub figure_fits : (stone : Option RecordNumber) → FitsWhole stone_shapes (rose_of (listed stone))
figure_fits None = (record { shape = shaped 0 0; judgeable = record { known = refl; counted = refl; fit = refl }; joined = refl }, tt)
figure_fits (Some number) = (
  record { shape = shaped 0 2; judgeable = record { known = refl; counted = refl; fit = refl }; joined = refl },
  (
    (record { shape = shaped 0 0; judgeable = record { known = refl; counted = refl; fit = refl }; joined = refl }, tt),
    ((record { shape = shaped 1 0; judgeable = record { known = refl; counted = refl; fit = refl }; joined = refl }, tt), tt),
  ),
)

abbrev pub nothing_here : Rose
nothing_here = leaf 0 []

-- the record of a node of a kind, whatever number the code has for the kind
pub of_kind : (kind number : ℕ) (numbers : List ℤ) (successors : List ℕ) (n : SheetRecord) → number ≡ kind → n ≡ record_of (record { kind = number; numbers = numbers; successors = successors })
    → n ≡ record_of (record { kind = kind; numbers = numbers; successors = successors })
of_kind kind number numbers successors n same is = is ∙ ap (λ (k : ℕ). record_of (record { kind = k; numbers = numbers; successors = successors })) same

pub leaf_of_kind : (before after : Draft) (answer : Result ℕ Refusal) (kind number : ℕ) (numbers : List ℤ) (n : SheetRecord) → number ≡ kind → n ≡ record_of (record { kind = number; numbers = numbers; successors = [] })
    → DrawsRecord before after answer n → DrawsRose before after answer (leaf kind numbers)
leaf_of_kind before after answer kind number numbers n same is told = leaf_drawn before after answer kind numbers n (of_kind kind number numbers [] n same is) told

abbrev pub stone_here : RecordNumber → Rose
stone_here number = leaf 1 (pos number.value ∷ [])

pub rose_of_stone : (stone : Option RecordNumber) (number : RecordNumber) → stone ≡ Some number → two 2 [] nothing_here (stone_here number) ≡ rose_of (listed stone)
rose_of_stone stone number is = ap (λ (o : Option RecordNumber). rose_of (listed o)) (sym is)
