-- What every chart kind shows, of stones.
use Rattle.std.specs.Prelude.{◌≡◌, ℕ, zero, suc, ◌<◌, ◌≤◌, Bool, true, false, not, List, [], ◌∷◌, length, ℤ, pos, negsuc, Some, None, Option, int_le, refl}
use Rattle.std.proofs.Common.{ap, subst, arith}
use Rattle.std.specs.List.{AllByRecursion}
use Rattle.std.proofs.lemmas.Int.{ints}
use Rattle.std.proofs.lemmas.Bool.{and_parts, leb-true, not-false}
use Rattle.refusal.specs.declared.Refusal.TheVariants.{FieldOutOfRange, NumberHeld}
use Rattle.node.specs.declared.shape.Shape.{Shape}
use Rattle.node.specs.Kinds.{shaped}
use Rattle.records.specs.declared.record_number.RecordNumber.{RecordNumber}
use Rattle.records.specs.Held.{holds}
use Rattle.records.specs.Range.{is_record_number}
use Rattle.records.proofs.Holdable.{holdable_all}
use Rattle.records.proofs.Outcome.{first_passed, then_passed}
use Rattle.search.specs.Judging.{Judgeable}
use Rattle.search.specs.Drawing.{CanBeHeld}
use Rattle.search.specs.Laws.{Answers, JudgesWell, Laws}
use Rattle.search.specs.Visit.{FitsWhole}
use Rattle.search.proofs.Places.{not_both, some_same}
use Rattle.search.proofs.Walking.{answers_by_rose, roses_make_figures}
use Rattle.toy_chart.specs.declared.Stone.{Stone}
use Rattle.toy_chart.specs.declared.StoneChart.{StoneChart}
use Rattle.toy_chart.specs.Stones.{listed, held, number_of, add_refusal, shapes, is_stone, counted, judge_stone, judging, drawing, rose_of, answer_of}

few_numbers_lem : (kind : ℕ) (shape : Shape) → shapes kind ≡ Some shape → shape.numbers ≤ 4
few_numbers_lem zero shape h = let e = ap (λ (s : Shape). s.numbers) (some_same (shaped 0 0) shape h) in omega (arith, e)
few_numbers_lem (suc zero) shape h = let e = ap (λ (s : Shape). s.numbers) (some_same (shaped 1 0) shape h) in omega (arith, e)
few_numbers_lem (suc (suc zero)) shape h = let e = ap (λ (s : Shape). s.numbers) (some_same (shaped 0 2) shape h) in omega (arith, e)
few_numbers_lem (suc (suc (suc kind))) shape h = absurd (not_both shape h)

few_successors_lem : (kind : ℕ) (shape : Shape) → shapes kind ≡ Some shape → shape.successors ≤ 3
few_successors_lem zero shape h = let e = ap (λ (s : Shape). s.successors) (some_same (shaped 0 0) shape h) in omega (arith, e)
few_successors_lem (suc zero) shape h = let e = ap (λ (s : Shape). s.successors) (some_same (shaped 1 0) shape h) in omega (arith, e)
few_successors_lem (suc (suc zero)) shape h = let e = ap (λ (s : Shape). s.successors) (some_same (shaped 0 2) shape h) in omega (arith, e)
few_successors_lem (suc (suc (suc kind))) shape h = absurd (not_both shape h)

few_ways_lem : (q : Bool) (kind : ℕ) (numbers : List ℤ) (shape : Shape) → Judgeable judging shape kind numbers → length (judge_stone q kind numbers).ways ≤ 2
few_ways_lem q zero numbers shape h = omega arith
few_ways_lem q (suc zero) numbers shape h = omega arith
few_ways_lem q (suc (suc zero)) numbers shape h = omega arith
few_ways_lem q (suc (suc (suc kind))) numbers shape h = omega arith

ways_in_shape_lem : (q : Bool) (kind : ℕ) (numbers : List ℤ) (shape : Shape) → Judgeable judging shape kind numbers → AllByRecursion (λ way. way < shape.successors) (judge_stone q kind numbers).ways
ways_in_shape_lem q zero numbers shape h = tt
ways_in_shape_lem q (suc zero) numbers shape h = tt
ways_in_shape_lem q (suc (suc zero)) numbers shape h =
    let e = ap (λ (s : Shape). s.successors) (some_same (shaped 0 2) shape h.known) in
    (omega (arith, e), tt)
ways_in_shape_lem q (suc (suc (suc kind))) numbers shape h = tt

small_number : (z : ℤ) → is_record_number z ≡ true → counted z < 65536
small_number (pos n) h = let e = leb-true n 65535 (and_parts (int_le (pos 1) (pos n)) (int_le (pos n) (pos 65535)) h).1 in omega (arith, e)
small_number (negsuc n) h = omega arith

stone_is_small : (numbers : List ℤ) (number : ℕ) → is_stone numbers ≡ true → (judge_stone true 1 numbers).emits ≡ Some number → number < 65536
stone_is_small [] number h e = absurd (not_both number e)
stone_is_small (z ∷ []) number h e = subst (λ (n : ℕ). n < 65536) (some_same (counted z) number e) (small_number z h)
stone_is_small (z ∷ y ∷ zs) number h e = absurd (let w : ◌≡◌ {A = ℕ} 0 1 = cc in omega arith)

small_emissions_lem : (q : Bool) (kind : ℕ) (numbers : List ℤ) (shape : Shape) (number : ℕ) → Judgeable judging shape kind numbers → (judge_stone q kind numbers).emits ≡ Some number → number < 65536
small_emissions_lem q zero numbers shape number h e = absurd (not_both number e)
small_emissions_lem q (suc zero) numbers shape number h e = stone_is_small numbers number h.fit e
small_emissions_lem q (suc (suc zero)) numbers shape number h e = absurd (not_both number e)
small_emissions_lem q (suc (suc (suc kind))) numbers shape number h e = absurd (not_both number e)

pub judges_well_lem : JudgesWell judging
judges_well_lem = record { few_numbers = few_numbers_lem; few_successors = few_successors_lem; few_ways = few_ways_lem; ways_in_shape = ways_in_shape_lem; small_emissions = small_emissions_lem }

adds_new : (stones : List Stone) (stone : Stone) → add_refusal stones stone ≡ None → holds number_of (number_of stone) stones ≡ false
adds_new stones stone free =
    first_passed (holds number_of stone.number stones) NumberHeld _ (then_passed (not (is_record_number stone.number)) FieldOutOfRange _ free)

adds_numbers : (stones : List Stone) (stone : Stone) → add_refusal stones stone ≡ None → is_record_number stone.number ≡ true
adds_numbers stones stone free = not-false (is_record_number stone.number) (first_passed (not (is_record_number stone.number)) FieldOutOfRange _ free)

-- stones of record numbers make a rose that fits
pub rose_fits : (stones : List Stone) → AllByRecursion (λ stone. is_record_number stone.number ≡ true) stones → FitsWhole judging (rose_of stones)
rose_fits [] h = (record { shape = shaped 0 0; judgeable = record { known = refl; counted = refl; fit = refl }; joined = refl }, tt)
rose_fits (stone ∷ stones) h = (
  record { shape = shaped 0 2; judgeable = record { known = refl; counted = refl; fit = refl }; joined = refl },
  (
    (record { shape = shaped 0 0; judgeable = record { known = refl; counted = refl; fit = refl }; joined = refl }, tt),
    ((record { shape = shaped 1 0; judgeable = record { known = refl; counted = refl; fit = h.0 }; joined = refl }, tt), tt),
  ),
)

-- the number of a held stone is a record number
pub number_fits : (n : RecordNumber) → is_record_number (pos n.value) ≡ true
number_fits n = let low = n.positive in let high = n.within in grind (arith, ints)

pub stone_fits : (stone : Option RecordNumber) → FitsWhole judging (rose_of (listed stone))
stone_fits None = rose_fits [] tt
stone_fits (Some number) = rose_fits (listed (Some number)) (number_fits number, tt)

pub chart_fits : (chart : StoneChart) → FitsWhole judging (rose_of (held chart))
chart_fits chart = stone_fits chart.stone

held_numbers : (stones : List Stone) → CanBeHeld drawing stones → AllByRecursion (λ stone. is_record_number stone.number ≡ true) stones
held_numbers stones h = holdable_all number_of add_refusal (λ stone. is_record_number stone.number ≡ true) adds_numbers stones h

answered : (stones : List Stone) (q : Bool) → AllByRecursion (λ stone. is_record_number stone.number ≡ true) stones → Answers judging (drawing.figure stones) q (answer_of stones)
answered [] q h = answers_by_rose judging q (rose_of []) [] judges_well_lem (rose_fits [] h) (omega arith) (omega arith) refl
answered (stone ∷ stones) q h = answers_by_rose judging q (rose_of (stone ∷ stones)) (answer_of (stone ∷ stones)) judges_well_lem (rose_fits (stone ∷ stones) h) (omega arith) (omega arith) refl

pub lawful : Laws judging drawing
lawful =
    record {
      judges_well = judges_well_lem;
      adds_new_numbers = adds_new;
      figures = λ stones h. roses_make_figures judging (rose_of stones) (rose_fits stones (held_numbers stones h));
      answers = λ stones q h within. answered stones q (held_numbers stones h);
    }
