-- How a zone chart judges a node by a point.
use Rattle.std.specs.Prelude.{ℕ, Bool, false, cond, ◌&&◌, List, [], ◌∷◌, length, ℤ, pos, ◌-ℤ◌, ◌*ℤ◌, Some, None, Option, ◌==◌, int_le, int_lt, slice_index_or, unsigned_abs}
use Rattle.records.specs.declared.raw.Point.{Point}
use Rattle.records.specs.Range.{is_coordinate, is_zone}
use Rattle.node.specs.declared.kind.Kind.{Kind}
use Rattle.node.specs.declared.kind.Kind.TheVariants.{Empty, Split, Edge, Zone, XSpan, YSpan, Site}
use Rattle.node.specs.Kinds.{kind_numbered, shape_of}
use Rattle.search.specs.Judging.{Judgement, Judging, nothing}
use Rattle.zones.specs.Question.{is_within_bounds}

-- A zone chart knows splits, edges and zones: one value for each, and one for every other kind and for no kind.
abbrev pub by_kind : {A : Type 0} → Option Kind → A → A → A → A → A
by_kind None split edge zone other = other
by_kind (Some Empty) split edge zone other = other
by_kind (Some Split) split edge zone other = split
by_kind (Some Edge) split edge zone other = edge
by_kind (Some Zone) split edge zone other = zone
by_kind (Some XSpan) split edge zone other = other
by_kind (Some YSpan) split edge zone other = other
by_kind (Some Site) split edge zone other = other

-- The numbers of a node by their places.
abbrev number : List ℤ → ℕ → ℤ
number numbers place = slice_index_or numbers place (pos 0)

-- A split has its x, an edge its x1, y1, x2, y2, a zone its zone.
abbrev pub split_fits : List ℤ → Bool
split_fits numbers = length numbers == 1 && is_coordinate (number numbers 0)

abbrev pub edge_fits : List ℤ → Bool
edge_fits numbers =
    (length numbers == 4) && is_coordinate (number numbers 0) && is_coordinate (number numbers 1) && is_coordinate (number numbers 2) && is_coordinate (number numbers 3) && int_lt (number numbers 0) (number numbers 2)

abbrev pub zone_fits : List ℤ → Bool
zone_fits numbers = length numbers == 1 && is_zone (number numbers 0)

-- The point is on or above the line through the ends of an edge.
abbrev pub is_above : Point → ℤ → ℤ → ℤ → ℤ → Bool
is_above p x1 y1 x2 y2 = int_le (pos 0) (((x2 -ℤ x1) *ℤ (p.y -ℤ y1)) -ℤ ((y2 -ℤ y1) *ℤ (p.x -ℤ x1)))

abbrev pub goes_to : ℕ → Judgement
goes_to way = record { ways = way ∷ []; emits = None }

-- Low, or high.
abbrev pub judge_split : Point → List ℤ → Judgement
judge_split p numbers = goes_to (cond (int_lt p.x (number numbers 0)) 0 1)

-- Above, or below.
abbrev pub judge_edge : Point → List ℤ → Judgement
judge_edge p numbers =
    goes_to (cond (is_above p (number numbers 0) (number numbers 1) (number numbers 2) (number numbers 3)) 1 0)

abbrev pub judge_zone : List ℤ → Judgement
judge_zone numbers = record { ways = []; emits = Some (unsigned_abs (number numbers 0)) }

abbrev pub zone_judging : Judging Point
zone_judging =
    record {
      is_within_bounds = is_within_bounds;
      shape_of = λ kind. by_kind (kind_numbered kind) (Some (shape_of Split)) (Some (shape_of Edge)) (Some (shape_of Zone)) None;
      is_fit = λ kind numbers. by_kind (kind_numbered kind) (split_fits numbers) (edge_fits numbers) (zone_fits numbers) false;
      judge = λ p kind numbers. by_kind (kind_numbered kind) (judge_split p numbers) (judge_edge p numbers) (judge_zone numbers) nothing;
    }
