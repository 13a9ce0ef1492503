-- Known kinds and fit numbers of a site chart have 32 bits.
use Rattle.std.proofs.Common.{◌≡◌, ℕ, ◌<◌, ◌^◌, true, ◌&&◌, eqb, List, length, ℤ, Some, None, Option, refl}
use lib.Signed.{le_z}
use Rattle.std.specs.List.{AllByRecursion}
use Rattle.std.proofs.lemmas.Bool.{and_parts, false≢true}
use Rattle.records.specs.Range.{is_coordinate, is_record_number}
use Rattle.node.specs.declared.kind.Kind.{Kind}
use Rattle.node.specs.declared.kind.Kind.TheVariants.{Empty, Split, Edge, Zone, XSpan, YSpan, Site}
use Rattle.node.specs.declared.shape.Shape.{Shape}
use Rattle.node.specs.Kinds.{kind_numbered}
use Rattle.reader.specs.RoundTrips.{IsInt}
use Rattle.search.proofs.Places.{not_both}
use Rattle.sites.specs.Site.{is_site}
use Rattle.sites.specs.Question.{runs_forward}
use Rattle.site_figure.specs.Judge.{known_shape, number_at, site_of, is_fit_as, site_judging}
use Rattle.calls.specs.Meaning.{HasSmallNodes}
use Rattle.cases.proofs.Ranges.{coordinate_int, record_number_int, kind_small, none_int, two_int, three_int}

known_small : (number : ℕ) (kind : Option Kind) (shape : Shape) → kind_numbered number ≡ kind → known_shape kind ≡ Some shape → number < 2 ^ 32
known_small number None shape is k = absurd (not_both shape k)
known_small number (Some kind) shape is k = kind_small number kind is

span_int : (numbers : List ℤ) → (eqb (length numbers) 2 && runs_forward (number_at numbers 0) (number_at numbers 1)) ≡ true → AllByRecursion IsInt numbers
span_int numbers h =
    let low = number_at numbers 0 in
    let high = number_at numbers 1 in
    let parts = and_parts (eqb (length numbers) 2) (runs_forward low high) h in
    let range = (and_parts (is_coordinate low && is_coordinate high) (le_z low high) parts.1).0 in
    let both = and_parts (is_coordinate low) (is_coordinate high) range in
    two_int numbers parts.0 (coordinate_int low both.0) (coordinate_int high both.1)

site_int : (numbers : List ℤ) → (eqb (length numbers) 3 && is_site (site_of numbers)) ≡ true → AllByRecursion IsInt numbers
site_int numbers h =
    let number = number_at numbers 0 in
    let x = number_at numbers 1 in
    let y = number_at numbers 2 in
    let parts = and_parts (eqb (length numbers) 3) (is_site (site_of numbers)) h in
    let at_y = and_parts (is_record_number number && is_coordinate x) (is_coordinate y) parts.1 in
    let at_x = and_parts (is_record_number number) (is_coordinate x) at_y.0 in
    three_int numbers parts.0 (record_number_int number at_x.0) (coordinate_int x at_x.1) (coordinate_int y at_y.1)

fit_ints : (kind : Option Kind) (numbers : List ℤ) → is_fit_as kind numbers ≡ true → AllByRecursion IsInt numbers
fit_ints None numbers h = absurd (false≢true h)
fit_ints (Some Empty) numbers h = none_int numbers h
fit_ints (Some Split) numbers h = absurd (false≢true h)
fit_ints (Some Edge) numbers h = absurd (false≢true h)
fit_ints (Some Zone) numbers h = absurd (false≢true h)
fit_ints (Some XSpan) numbers h = span_int numbers h
fit_ints (Some YSpan) numbers h = span_int numbers h
fit_ints (Some Site) numbers h = site_int numbers h

pub sites_are_small : HasSmallNodes site_judging
sites_are_small =
    record {
      small_kinds = λ kind shape k. known_small kind (kind_numbered kind) shape refl k;
      small_numbers = λ kind numbers shape j. fit_ints (kind_numbered kind) numbers j.fit;
    }
