-- A chart of at most one stone.
use Rattle.std.specs.Prelude.{ℕ, Bool, true, false, cond, not, List, [], ◌∷◌, length, ℤ, pos, negsuc, Some, None, Option, nat_le}
use Rattle.std.specs.Option.{option_map}
use Rattle.refusal.specs.declared.Refusal.{Refusal}
use Rattle.refusal.specs.declared.Refusal.TheVariants.{FieldOutOfRange, NumberHeld, RegisterFull}
use Rattle.node.specs.declared.shape.Shape.{Shape}
use Rattle.node.specs.Kinds.{shaped}
use Rattle.records.specs.declared.record_number.RecordNumber.{RecordNumber}
use Rattle.records.specs.Held.{holds}
use Rattle.records.specs.Range.{is_record_number}
use Rattle.search.specs.Judging.{Judging, Judgement, nothing}
use Rattle.search.specs.Drawing.{Drawing}
use Rattle.search.specs.Rose.{Rose, leaf, two}
use Rattle.search.specs.Making.{figure_of}
use Rattle.toy_chart.specs.declared.Stone.{Stone}
use Rattle.toy_chart.specs.declared.kind.Kind.{Kind}
use Rattle.toy_chart.specs.declared.kind.Kind.TheVariants.{Nothing, Stone as OneStone, NoneAndStone}
use Rattle.toy_chart.specs.Kinds.{kind_numbered}
use Rattle.toy_chart.specs.declared.StoneChart.{StoneChart}

abbrev pub number_of : Stone → ℤ
number_of stone = stone.number

abbrev pub add_refusal : List Stone → Stone → Option Refusal
add_refusal held stone =
    cond (not (is_record_number stone.number)) (Some FieldOutOfRange)
    (cond (holds number_of stone.number held) (Some NumberHeld) (cond (nat_le 1 (length held)) (Some RegisterFull) None))

-- Kind 0: nothing is here. Kind 1: a stone, by its number. Kind 2: none and a stone.
abbrev pub shape_as : Kind → Shape
shape_as Nothing = shaped 0 0
shape_as OneStone = shaped 1 0
shape_as NoneAndStone = shaped 0 2

abbrev pub shapes : ℕ → Option Shape
shapes kind = option_map shape_as (kind_numbered kind)

abbrev pub is_stone : List ℤ → Bool
is_stone [] = false
is_stone (number ∷ []) = is_record_number number
is_stone (number ∷ z ∷ zs) = false

abbrev pub is_none : List ℤ → Bool
is_none [] = true
is_none (z ∷ zs) = false

abbrev pub fit_as : Option Kind → List ℤ → Bool
fit_as (Some Nothing) numbers = is_none numbers
fit_as (Some OneStone) numbers = is_stone numbers
fit_as (Some NoneAndStone) numbers = is_none numbers
fit_as None numbers = false

abbrev pub fit : ℕ → List ℤ → Bool
fit kind numbers = fit_as (kind_numbered kind) numbers

abbrev pub counted : ℤ → ℕ
counted (pos n) = n
counted (negsuc n) = 0

abbrev pub stone_emits : List ℤ → Option ℕ
stone_emits [] = None
stone_emits (number ∷ zs) = Some (counted number)

abbrev pub judge_as : Option Kind → List ℤ → Judgement
judge_as (Some Nothing) numbers = nothing
judge_as (Some OneStone) numbers = record { ways = []; emits = stone_emits numbers }
judge_as (Some NoneAndStone) numbers = record { ways = 1 ∷ []; emits = None }
judge_as None numbers = nothing

abbrev pub judge_stone : Bool → ℕ → List ℤ → Judgement
judge_stone question kind numbers = judge_as (kind_numbered kind) numbers

abbrev pub judging : Judging Bool
judging = record { is_within_bounds = λ question. true; shape_of = shapes; is_fit = fit; judge = judge_stone }

abbrev pub rose_of : List Stone → Rose
rose_of [] = leaf 0 []
rose_of (stone ∷ held) = two 2 [] (leaf 0 []) (leaf 1 (stone.number ∷ []))

abbrev pub answer_of : List Stone → List ℕ
answer_of [] = []
answer_of (stone ∷ held) = counted stone.number ∷ []

abbrev pub drawing : Drawing Stone Bool
drawing = record { number_of = number_of; add_refusal = add_refusal; figure = λ held. figure_of (rose_of held); answer = λ held question. answer_of held }

abbrev pub listed : Option RecordNumber → List Stone
listed None = []
listed (Some number) = record { number = pos number.value } ∷ []

abbrev pub held : StoneChart → List Stone
held chart = listed chart.stone
