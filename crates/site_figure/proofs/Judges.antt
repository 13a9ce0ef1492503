-- Judging names few ways, each in the shape, and emits small numbers.
use Rattle.std.proofs.Common.{◌≡◌, ℕ, ◌<◌, ◌≤◌, Bool, true, cond, ◌&&◌, ◌||◌, eqb, leb, List, length, ℤ, pos, negsuc, nat_abs, Some, None, Option, subst, arith}
use lib.Signed.{le_z, lt_z}
use Rattle.std.specs.List.{AllByRecursion}
use Rattle.std.proofs.lemmas.Bool.{cond_both, and_parts, leb-true, false≢true}
use Rattle.records.specs.declared.raw.Rectangle.{Rectangle}
use Rattle.records.specs.Range.{is_record_number, is_coordinate}
use Rattle.sites.specs.Site.{is_site}
use Rattle.sites.specs.Question.{is_inside}
use Rattle.node.specs.declared.kind.Kind.{Kind}
use Rattle.node.specs.declared.kind.Kind.TheVariants.{Empty, Split, Edge, Zone, XSpan, YSpan, Site}
use Rattle.node.specs.declared.shape.Shape.{Shape}
use Rattle.node.specs.Kinds.{kind_numbered}
use Rattle.search.specs.Judging.{Judgement, nothing}
use Rattle.search.specs.Laws.{JudgesWell}
use Rattle.site_figure.specs.Judge.{known_shape, number_at, site_of, is_fit_as, left_then_right, across, judge_xspan, judge_yspan, judge_as, site_judging}

abbrev numbers_in : Option Shape → ℕ
numbers_in None = 0
numbers_in (Some shape) = shape.numbers

abbrev successors_in : Option Shape → ℕ
successors_in None = 0
successors_in (Some shape) = shape.successors

few_numbers_lem : (o : Option Kind) → numbers_in (known_shape o) ≤ 4
few_numbers_lem None = omega arith
few_numbers_lem (Some Empty) = omega arith
few_numbers_lem (Some Split) = omega arith
few_numbers_lem (Some Edge) = omega arith
few_numbers_lem (Some Zone) = omega arith
few_numbers_lem (Some XSpan) = omega arith
few_numbers_lem (Some YSpan) = omega arith
few_numbers_lem (Some Site) = omega arith

few_successors_lem : (o : Option Kind) → successors_in (known_shape o) ≤ 3
few_successors_lem None = omega arith
few_successors_lem (Some Empty) = omega arith
few_successors_lem (Some Split) = omega arith
few_successors_lem (Some Edge) = omega arith
few_successors_lem (Some Zone) = omega arith
few_successors_lem (Some XSpan) = omega arith
few_successors_lem (Some YSpan) = omega arith
few_successors_lem (Some Site) = omega arith

-- at most two ways, each below the number of successors
abbrev WaysAreGood : ℕ → Judgement → Type 0
WaysAreGood successors j = (length j.ways ≤ 2) × AllByRecursion (λ way. way < successors) j.ways

good_x : (q : Rectangle) (low high : ℤ) → WaysAreGood 3 (judge_xspan q low high)
good_x q low high =
    cond_both (lt_z high q.west || lt_z q.east low) nothing _ (WaysAreGood 3) (λ _. (omega arith, tt))
    (λ _. cond_both (le_z q.west low && le_z high q.east) across left_then_right (WaysAreGood 3) (λ _. (omega arith, (omega arith, tt))) (λ _. (omega arith, (omega arith, (omega arith, tt)))))

good_y : (q : Rectangle) (low high : ℤ) → WaysAreGood 2 (judge_yspan q low high)
good_y q low high =
    cond_both (lt_z high q.south || lt_z q.north low) nothing left_then_right (WaysAreGood 2) (λ _. (omega arith, tt)) (λ _. (omega arith, (omega arith, (omega arith, tt))))

good_ways : (q : Rectangle) (o : Option Kind) (numbers : List ℤ) → WaysAreGood (successors_in (known_shape o)) (judge_as q o numbers)
good_ways q None numbers = (omega arith, tt)
good_ways q (Some Empty) numbers = (omega arith, tt)
good_ways q (Some Split) numbers = (omega arith, tt)
good_ways q (Some Edge) numbers = (omega arith, tt)
good_ways q (Some Zone) numbers = (omega arith, tt)
good_ways q (Some XSpan) numbers = good_x q (number_at numbers 0) (number_at numbers 1)
good_ways q (Some YSpan) numbers = good_y q (number_at numbers 0) (number_at numbers 1)
good_ways q (Some Site) numbers = (omega arith, tt)

abbrev IsSmall : Option ℕ → Type 0
IsSmall None = Unit {0}
IsSmall (Some n) = n < 65536

small_number : (z : ℤ) → is_record_number z ≡ true → nat_abs z < 65536
small_number (pos n) h =
    let le : n ≤ 65535 = leb-true n 65535 (and_parts (leb 1 n) (leb n 65535) h).1 in omega arith
small_number (negsuc n) h = absurd (false≢true h)

small_if : (b : Bool) (n : ℕ) → n < 65536 → IsSmall (cond b (Some n) None)
small_if b n h = cond_both b (Some n) None IsSmall (λ _. h) (λ _. tt)

none_from_x : (q : Rectangle) (low high : ℤ) → IsSmall (judge_xspan q low high).emits
none_from_x q low high =
    cond_both (lt_z high q.west || lt_z q.east low) nothing _ (λ j. IsSmall j.emits) (λ _. tt)
    (λ _. cond_both (le_z q.west low && le_z high q.east) across left_then_right (λ j. IsSmall j.emits) (λ _. tt) (λ _. tt))

none_from_y : (q : Rectangle) (low high : ℤ) → IsSmall (judge_yspan q low high).emits
none_from_y q low high =
    cond_both (lt_z high q.south || lt_z q.north low) nothing left_then_right (λ j. IsSmall j.emits) (λ _. tt) (λ _. tt)

small_emission : (q : Rectangle) (o : Option Kind) (numbers : List ℤ) → is_fit_as o numbers ≡ true → IsSmall (judge_as q o numbers).emits
small_emission q None numbers h = tt
small_emission q (Some Empty) numbers h = tt
small_emission q (Some Split) numbers h = tt
small_emission q (Some Edge) numbers h = tt
small_emission q (Some Zone) numbers h = tt
small_emission q (Some XSpan) numbers h = none_from_x q (number_at numbers 0) (number_at numbers 1)
small_emission q (Some YSpan) numbers h = none_from_y q (number_at numbers 0) (number_at numbers 1)
small_emission q (Some Site) numbers h =
    let site : is_site (site_of numbers) ≡ true = (and_parts (eqb (length numbers) 3) (is_site (site_of numbers)) h).1 in
    let number : is_record_number (number_at numbers 0) ≡ true =
    (and_parts (is_record_number (number_at numbers 0)) (is_coordinate (number_at numbers 1)) (and_parts (is_record_number (number_at numbers 0) && is_coordinate (number_at numbers 1)) (is_coordinate (number_at numbers 2)) site).0).0 in
    small_if (is_inside q (site_of numbers)) (nat_abs (number_at numbers 0)) (small_number (number_at numbers 0) number)

pub judges_well_lem : JudgesWell site_judging
judges_well_lem =
    record {
      few_numbers = λ kind shape e. subst (λ o. numbers_in o ≤ 4) e (few_numbers_lem (kind_numbered kind));
      few_successors = λ kind shape e. subst (λ o. successors_in o ≤ 3) e (few_successors_lem (kind_numbered kind));
      few_ways = λ q kind numbers shape h. (good_ways q (kind_numbered kind) numbers).0;
      ways_in_shape =
          λ q kind numbers shape h.
          subst (λ o. AllByRecursion (λ way. way < successors_in o) (judge_as q (kind_numbered kind) numbers).ways) h.known (good_ways q (kind_numbered kind) numbers).1;
      small_emissions =
          λ q kind numbers shape number h e. subst IsSmall e (small_emission q (kind_numbered kind) numbers h.fit);
    }
