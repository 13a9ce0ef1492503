-- Judging in a zone chart keeps to the shapes.
-- Assumes nothing.
use Rattle.std.proofs.Common.{◌≡◌, ℕ, ◌<◌, ◌≤◌, Bool, true, false, eqb, List, [], ◌∷◌, length, get_or, ℤ, pos, negsuc, nat_abs, ◌≤ℤ◌, Some, None, Option, sym, ap, subst, arith}
use lib.Signed.{lt_z, le_z}
use borrow.Author.Differences.{ints}
use Rattle.std.specs.List.{AllByRecursion}
use Rattle.std.proofs.lemmas.Bool.{and_parts, cond_both, true≢false}
use Rattle.algebra.proofs.Order.{int_le→≤ℤ}
use Rattle.records.specs.declared.raw.Point.{Point}
use Rattle.records.specs.Range.{is_zone}
use Rattle.node.specs.declared.kind.Kind.{Kind}
use Rattle.node.specs.declared.kind.Kind.TheVariants.{Empty, Split, Edge, Zone, XSpan, YSpan, Site}
use Rattle.node.specs.declared.shape.Shape.{Shape}
use Rattle.node.specs.Kinds.{kind_numbered, shape_of}
use Rattle.search.specs.Judging.{Judgement, nothing}
use Rattle.search.specs.Laws.{JudgesWell}
use Rattle.zone_figure.specs.Judge.{by_kind, is_above, split_fits, edge_fits, zone_fits, judge_split, judge_edge, judge_zone, zone_judging}

abbrev is_none : {A : Type 0} → Option A → Bool
is_none None = true
is_none (Some y) = false

none_is_not_some : {A : Type 0} {x : A} → None ≡ Some x → ⊥
none_is_not_some e = true≢false (ap is_none e)

abbrev some_of : {A : Type 0} → A → Option A → A
some_of d None = d
some_of d (Some y) = y

same_some : {A : Type 0} (x y : A) → Some x ≡ Some y → x ≡ y
same_some x y e = ap (some_of x) e

abbrev shape_by : Option Kind → Option Shape
shape_by kind = by_kind kind (Some (shape_of Split)) (Some (shape_of Edge)) (Some (shape_of Zone)) None

-- what holds of the three shapes holds of every known one
each_shape : (P : Shape → Type 0) → P (shape_of Split) → P (shape_of Edge) → P (shape_of Zone)
    → (kind : Option Kind) (shape : Shape) → shape_by kind ≡ Some shape → P shape
each_shape P s e z None shape k = absurd (none_is_not_some k)
each_shape P s e z (Some Empty) shape k = absurd (none_is_not_some k)
each_shape P s e z (Some Split) shape k = subst P (same_some (shape_of Split) shape k) s
each_shape P s e z (Some Edge) shape k = subst P (same_some (shape_of Edge) shape k) e
each_shape P s e z (Some Zone) shape k = subst P (same_some (shape_of Zone) shape k) z
each_shape P s e z (Some XSpan) shape k = absurd (none_is_not_some k)
each_shape P s e z (Some YSpan) shape k = absurd (none_is_not_some k)
each_shape P s e z (Some Site) shape k = absurd (none_is_not_some k)

-- likewise of the three judgements, by shape
each_judgement : (P : Shape → Judgement → Type 0) (p : Point) (numbers : List ℤ)
    → P (shape_of Split) (judge_split p numbers) → P (shape_of Edge) (judge_edge p numbers) → (zone_fits numbers ≡ true → P (shape_of Zone) (judge_zone numbers))
    → (kind : Option Kind) (shape : Shape) → shape_by kind ≡ Some shape → by_kind kind (split_fits numbers) (edge_fits numbers) (zone_fits numbers) false ≡ true
    → P shape (by_kind kind (judge_split p numbers) (judge_edge p numbers) (judge_zone numbers) nothing)
each_judgement P p numbers s e z None shape k f = absurd (none_is_not_some k)
each_judgement P p numbers s e z (Some Empty) shape k f = absurd (none_is_not_some k)
each_judgement P p numbers s e z (Some Split) shape k f = subst (λ t. P t (judge_split p numbers)) (same_some (shape_of Split) shape k) s
each_judgement P p numbers s e z (Some Edge) shape k f = subst (λ t. P t (judge_edge p numbers)) (same_some (shape_of Edge) shape k) e
each_judgement P p numbers s e z (Some Zone) shape k f = subst (λ t. P t (judge_zone numbers)) (same_some (shape_of Zone) shape k) (z f)
each_judgement P p numbers s e z (Some XSpan) shape k f = absurd (none_is_not_some k)
each_judgement P p numbers s e z (Some YSpan) shape k f = absurd (none_is_not_some k)
each_judgement P p numbers s e z (Some Site) shape k f = absurd (none_is_not_some k)

small_zone : (zone : ℤ) → is_zone zone ≡ true → nat_abs zone < 65536
small_zone (pos n) h =
    let parts = and_parts (le_z (pos 0) (pos n)) (le_z (pos n) (pos 65535)) h in
    let high : pos n ≤ℤ pos 65535 = int_le→≤ℤ {a = pos n} {b = pos 65535} parts.1 in
    omega (arith, ints)
small_zone (negsuc n) h = absurd (true≢false (sym h))

abbrev Emits : Shape → Judgement → Type 0
Emits shape judgement = (number : ℕ) → judgement.emits ≡ Some number → number < 65536

abbrev InShape : Shape → Judgement → Type 0
InShape shape judgement = AllByRecursion (λ way. way < shape.successors) judgement.ways

abbrev Few : Shape → Judgement → Type 0
Few shape judgement = length judgement.ways ≤ 2

pub judges_well_lem : JudgesWell zone_judging
judges_well_lem = record {
  few_numbers = λ kind shape k. each_shape (λ t. t.numbers ≤ 4) (omega arith) (omega arith) (omega arith) (kind_numbered kind) shape k;
  few_successors = λ kind shape k. each_shape (λ t. t.successors ≤ 3) (omega arith) (omega arith) (omega arith) (kind_numbered kind) shape k;
  few_ways = λ p kind numbers shape j. each_judgement Few p numbers (omega arith) (omega arith) (λ f. omega arith) (kind_numbered kind) shape j.known j.fit;
  ways_in_shape = λ p kind numbers shape j. each_judgement InShape p numbers
      (cond_both (lt_z p.x (get_or numbers 0 (pos 0))) 0 1 (λ way. AllByRecursion (λ w. w < 2) (way ∷ [])) (λ _. (omega arith, tt)) (λ _. (omega arith, tt)))
      (cond_both (is_above p (get_or numbers 0 (pos 0)) (get_or numbers 1 (pos 0)) (get_or numbers 2 (pos 0)) (get_or numbers 3 (pos 0))) 1 0 (λ way. AllByRecursion (λ w. w < 2) (way ∷ [])) (λ _. (omega arith, tt)) (λ _. (omega arith, tt)))
      (λ f. tt) (kind_numbered kind) shape j.known j.fit;
  small_emissions = λ p kind numbers shape number j. each_judgement Emits p numbers
      (λ n e. absurd (none_is_not_some e)) (λ n e. absurd (none_is_not_some e))
      (λ f n e. subst (λ m. m < 65536) (same_some (nat_abs (get_or numbers 0 (pos 0))) n e) (small_zone (get_or numbers 0 (pos 0)) (and_parts (eqb (length numbers) 1) (is_zone (get_or numbers 0 (pos 0))) f).1))
      (kind_numbered kind) shape j.known j.fit number;
}
