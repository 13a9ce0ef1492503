-- Known kinds and fit numbers of a zone chart have 32 bits.
use Rattle.std.proofs.Common.{◌≡◌, ℕ, ◌<◌, ◌^◌, true, false, ◌&&◌, eqb, List, length, ℤ, pos, get_or, Some, None, Option, refl}
use lib.Signed.{lt_z}
use Rattle.std.specs.List.{AllByRecursion}
use Rattle.std.proofs.lemmas.Bool.{and_parts, false≢true}
use Rattle.records.specs.Range.{is_coordinate, is_zone}
use Rattle.node.specs.declared.kind.Kind.{Kind}
use Rattle.node.specs.declared.kind.Kind.TheVariants.{Empty, Split, Edge, Zone, XSpan, YSpan, Site}
use Rattle.node.specs.declared.shape.Shape.{Shape}
use Rattle.node.specs.Kinds.{kind_numbered, shape_of}
use Rattle.reader.specs.RoundTrips.{IsInt}
use Rattle.search.proofs.Places.{not_both}
use Rattle.zone_figure.specs.Judge.{by_kind, split_fits, edge_fits, zone_fits, zone_judging}
use Rattle.calls.specs.Meaning.{HasSmallNodes}
use Rattle.cases.proofs.Ranges.{coordinate_int, zone_int, kind_small, one_int, four_int}

known_small : (number : ℕ) (kind : Option Kind) (shape : Shape) → kind_numbered number ≡ kind
    → by_kind kind (Some (shape_of Split)) (Some (shape_of Edge)) (Some (shape_of Zone)) None ≡ Some shape → number < 2 ^ 32
known_small number None shape is k = absurd (not_both shape k)
known_small number (Some kind) shape is k = kind_small number kind is

split_int : (numbers : List ℤ) → split_fits numbers ≡ true → AllByRecursion IsInt numbers
split_int numbers h =
    let parts = and_parts (eqb (length numbers) 1) (is_coordinate (get_or numbers 0 (pos 0))) h in
    one_int numbers parts.0 (coordinate_int (get_or numbers 0 (pos 0)) parts.1)

zone_ints : (numbers : List ℤ) → zone_fits numbers ≡ true → AllByRecursion IsInt numbers
zone_ints numbers h =
    let parts = and_parts (eqb (length numbers) 1) (is_zone (get_or numbers 0 (pos 0))) h in
    one_int numbers parts.0 (zone_int (get_or numbers 0 (pos 0)) parts.1)

edge_int : (numbers : List ℤ) → edge_fits numbers ≡ true → AllByRecursion IsInt numbers
edge_int numbers h =
    let x1 = get_or numbers 0 (pos 0) in
    let y1 = get_or numbers 1 (pos 0) in
    let x2 = get_or numbers 2 (pos 0) in
    let y2 = get_or numbers 3 (pos 0) in
    let four = eqb (length numbers) 4 in
    let to_y2 = (and_parts (four && is_coordinate x1 && is_coordinate y1 && is_coordinate x2 && is_coordinate y2) (lt_z x1 x2) h).0 in
    let at_y2 = and_parts (four && is_coordinate x1 && is_coordinate y1 && is_coordinate x2) (is_coordinate y2) to_y2 in
    let at_x2 = and_parts (four && is_coordinate x1 && is_coordinate y1) (is_coordinate x2) at_y2.0 in
    let at_y1 = and_parts (four && is_coordinate x1) (is_coordinate y1) at_x2.0 in
    let at_x1 = and_parts four (is_coordinate x1) at_y1.0 in
    four_int numbers at_x1.0 (coordinate_int x1 at_x1.1) (coordinate_int y1 at_y1.1) (coordinate_int x2 at_x2.1) (coordinate_int y2 at_y2.1)

fit_ints : (kind : Option Kind) (numbers : List ℤ) → by_kind kind (split_fits numbers) (edge_fits numbers) (zone_fits numbers) false ≡ true → AllByRecursion IsInt numbers
fit_ints None numbers f = absurd (false≢true f)
fit_ints (Some Empty) numbers f = absurd (false≢true f)
fit_ints (Some Split) numbers f = split_int numbers f
fit_ints (Some Edge) numbers f = edge_int numbers f
fit_ints (Some Zone) numbers f = zone_ints numbers f
fit_ints (Some XSpan) numbers f = absurd (false≢true f)
fit_ints (Some YSpan) numbers f = absurd (false≢true f)
fit_ints (Some Site) numbers f = absurd (false≢true f)

pub zones_are_small : HasSmallNodes zone_judging
zones_are_small =
    record {
      small_kinds = λ kind shape k. known_small kind (kind_numbered kind) shape refl k;
      small_numbers = λ kind numbers shape j. fit_ints (kind_numbered kind) numbers j.fit;
    }
