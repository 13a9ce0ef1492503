-- Every node of a figure of sites is fit and of its shape.
use Rattle.std.proofs.Common.{◌≡◌, true, ◌&&◌, List, ◌++◌, map, ℤ, refl}
use Rattle.std.specs.List.{AllByRecursion}
use Rattle.std.proofs.lemmas.Bool.{and_parts, and_from}
use Rattle.std.proofs.ByRecursion.{All-weaker, All-map}
use Rattle.records.specs.declared.raw.SiteRecord.{SiteRecord}
use Rattle.records.specs.Range.{is_coordinate, is_record_number}
use Rattle.slices.specs.Order.{sorted}
use Rattle.sites.specs.Site.{is_site}
use Rattle.sites.specs.Question.{runs_forward}
use Rattle.node.specs.declared.kind.Kind.TheVariants.{Empty, XSpan, YSpan, Site}
use Rattle.node.specs.Kinds.{shape_of}
use Rattle.search.specs.Visit.{FitsWhole}
use Rattle.site_figure.specs.Judge.{site_judging}
use Rattle.site_figure.specs.Halving.{Tree, none, one, both, tree_of, leaves_of}
use Rattle.site_figure.specs.Figure.{by_x, by_y, least, greatest, empty_rose, site_rose, y_rose, x_rose, x_tree}
use Rattle.site_figure.proofs.SortedTrees.{all_left, all_right, all_sorted_leaves}
use Rattle.site_figure.proofs.Spans.{least_one, greatest_one, least_below_greatest}

abbrev pub AllSites : List SiteRecord → Type 0
AllSites sites = AllByRecursion (λ s. is_site s ≡ true) sites

x_in_range : (s : SiteRecord) → is_site s ≡ true → is_coordinate s.x ≡ true
x_in_range s h =
    (and_parts (is_record_number s.number) (is_coordinate s.x) (and_parts (is_record_number s.number && is_coordinate s.x) (is_coordinate s.y) h).0).1

y_in_range : (s : SiteRecord) → is_site s ≡ true → is_coordinate s.y ≡ true
y_in_range s h = (and_parts (is_record_number s.number && is_coordinate s.x) (is_coordinate s.y) h).1

-- a span of coordinates runs forward
span_runs : (zs : List ℤ) → AllByRecursion (λ z. is_coordinate z ≡ true) zs → runs_forward (least zs) (greatest zs) ≡ true
span_runs zs h =
    let low : is_coordinate (least zs) ≡ true = least_one (λ z. is_coordinate z ≡ true) refl zs h in
    let high : is_coordinate (greatest zs) ≡ true = greatest_one (λ z. is_coordinate z ≡ true) refl zs h in
    and_from _ _ (and_from _ _ low high) (least_below_greatest zs)

empty_fits : FitsWhole site_judging empty_rose
empty_fits =
    (record { shape = shape_of Empty; judgeable = record { known = refl; counted = refl; fit = refl }; joined = refl }, tt)

site_fits : (s : SiteRecord) → is_site s ≡ true → FitsWhole site_judging (site_rose s)
site_fits s h =
    (record { shape = shape_of Site; judgeable = record { known = refl; counted = refl; fit = h }; joined = refl }, tt)

pub y_fits : (t : Tree SiteRecord) → AllSites (leaves_of t) → FitsWhole site_judging (y_rose t)
y_fits none h = empty_fits
y_fits (one s) h = site_fits s h.0
y_fits (both l r) h =
    let runs = span_runs (map (λ s. s.y) (leaves_of l ++ leaves_of r)) (All-map (λ z. is_coordinate z ≡ true) (λ s. s.y) (leaves_of l ++ leaves_of r) (All-weaker (λ s. is_site s ≡ true) (λ s. is_coordinate s.y ≡ true) y_in_range (leaves_of l ++ leaves_of r) h)) in (
      record { shape = shape_of YSpan; judgeable = record { known = refl; counted = refl; fit = runs }; joined = refl },
      (y_fits l (all_left (λ s. is_site s ≡ true) (leaves_of l) (leaves_of r) h), (y_fits r (all_right (λ s. is_site s ≡ true) (leaves_of l) (leaves_of r) h), tt)),
    )

pub x_fits : (t : Tree SiteRecord) → AllSites (leaves_of t) → FitsWhole site_judging (x_rose t)
x_fits none h = empty_fits
x_fits (one s) h = site_fits s h.0
x_fits (both l r) h =
    let sites : List SiteRecord = leaves_of l ++ leaves_of r in
    let runs = span_runs (map (λ s. s.x) sites) (All-map (λ z. is_coordinate z ≡ true) (λ s. s.x) sites (All-weaker (λ s. is_site s ≡ true) (λ s. is_coordinate s.x ≡ true) x_in_range sites h)) in (
      record { shape = shape_of XSpan; judgeable = record { known = refl; counted = refl; fit = runs }; joined = refl },
      (x_fits l (all_left (λ s. is_site s ≡ true) (leaves_of l) (leaves_of r) h), (x_fits r (all_right (λ s. is_site s ≡ true) (leaves_of l) (leaves_of r) h), (y_fits (tree_of (sorted by_y sites)) (all_sorted_leaves (λ s. is_site s ≡ true) by_y sites h), tt))),
    )

pub figure_fits : (sites : List SiteRecord) → AllSites sites → FitsWhole site_judging (x_tree sites)
figure_fits sites h = x_fits (tree_of (sorted by_x sites)) (all_sorted_leaves (λ s. is_site s ≡ true) by_x sites h)
