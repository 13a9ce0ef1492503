-- How a site chart judges: the kinds that it knows, which numbers are fit, and where a node leads.
use Rattle.std.specs.Prelude.{ℕ, Bool, true, false, cond, ◌&&◌, ◌||◌, List, [], ◌∷◌, length, ℤ, pos, Some, None, Option, ◌==◌, int_le, int_lt, slice_index_or, unsigned_abs}
use Rattle.records.specs.declared.raw.SiteRecord.{SiteRecord}
use Rattle.records.specs.declared.raw.Rectangle.{Rectangle}
use Rattle.sites.specs.Site.{is_site}
use Rattle.sites.specs.Question.{runs_forward, is_within_bounds, is_inside}
use Rattle.node.specs.declared.kind.Kind.{Kind}
use Rattle.node.specs.declared.kind.Kind.TheVariants.{Empty, Split, Edge, Zone, XSpan, YSpan, Site}
use Rattle.node.specs.declared.shape.Shape.{Shape}
use Rattle.node.specs.Kinds.{kind_numbered, shape_of}
use Rattle.search.specs.Judging.{Judging, Judgement, nothing}

-- A site chart knows empty nodes, x spans, y spans and sites.
abbrev pub is_known : Kind → Bool
is_known Empty = true
is_known Split = false
is_known Edge = false
is_known Zone = false
is_known XSpan = true
is_known YSpan = true
is_known Site = true

abbrev pub known_shape : Option Kind → Option Shape
known_shape None = None
known_shape (Some kind) = cond (is_known kind) (Some (shape_of kind)) None

-- The number at a place; 0 where there is none.
abbrev pub number_at : List ℤ → ℕ → ℤ
number_at numbers place = slice_index_or numbers place (pos 0)

-- The site that the numbers of a site node tell: its number, x, y.
abbrev pub site_of : List ℤ → SiteRecord
site_of numbers = record { number = number_at numbers 0; x = number_at numbers 1; y = number_at numbers 2 }

-- A span's least and greatest are coordinates, and the least does not exceed the greatest. A site's number and coordinates
-- are in range. Nothing else is fit, nor numbers that are too few or too many.
abbrev pub is_fit_as : Option Kind → List ℤ → Bool
is_fit_as None numbers = false
is_fit_as (Some Empty) numbers = length numbers == 0
is_fit_as (Some Split) numbers = false
is_fit_as (Some Edge) numbers = false
is_fit_as (Some Zone) numbers = false
is_fit_as (Some XSpan) numbers = length numbers == 2 && runs_forward (number_at numbers 0) (number_at numbers 1)
is_fit_as (Some YSpan) numbers = length numbers == 2 && runs_forward (number_at numbers 0) (number_at numbers 1)
is_fit_as (Some Site) numbers = length numbers == 3 && is_site (site_of numbers)

-- Successors are counted from 0: left, right, and across after them in an x span.
abbrev pub left_then_right : Judgement
left_then_right = record { ways = 0 ∷ 1 ∷ []; emits = None }

abbrev pub across : Judgement
across = record { ways = 2 ∷ []; emits = None }

-- Nowhere if all of the span is west or east of the rectangle, across if it is between the rectangle's sides, otherwise left,
-- then right.
abbrev pub judge_xspan : Rectangle → ℤ → ℤ → Judgement
judge_xspan q xmin xmax =
    cond (int_lt xmax q.west || int_lt q.east xmin) nothing
    (cond (int_le q.west xmin && int_le xmax q.east) across left_then_right)

-- Nowhere if all of the span is south or north of the rectangle, otherwise left, then right.
abbrev pub judge_yspan : Rectangle → ℤ → ℤ → Judgement
judge_yspan q ymin ymax = cond (int_lt ymax q.south || int_lt q.north ymin) nothing left_then_right

-- A site in the rectangle emits its number.
abbrev pub judge_site : Rectangle → SiteRecord → Judgement
judge_site q site = record { ways = []; emits = cond (is_inside q site) (Some (unsigned_abs site.number)) None }

abbrev pub judge_as : Rectangle → Option Kind → List ℤ → Judgement
judge_as q None numbers = nothing
judge_as q (Some Empty) numbers = nothing
judge_as q (Some Split) numbers = nothing
judge_as q (Some Edge) numbers = nothing
judge_as q (Some Zone) numbers = nothing
judge_as q (Some XSpan) numbers = judge_xspan q (number_at numbers 0) (number_at numbers 1)
judge_as q (Some YSpan) numbers = judge_yspan q (number_at numbers 0) (number_at numbers 1)
judge_as q (Some Site) numbers = judge_site q (site_of numbers)

abbrev pub site_judging : Judging Rectangle
site_judging =
    record {
      is_within_bounds = is_within_bounds;
      shape_of = λ kind. known_shape (kind_numbered kind);
      is_fit = λ kind numbers. is_fit_as (kind_numbered kind) numbers;
      judge = λ q kind numbers. judge_as q (kind_numbered kind) numbers;
    }
