-- The nodes of a figure of sites are of their kinds' shapes, whatever is held.
use Rattle.std.proofs.Common.{List, ◌++◌, refl}
use Rattle.records.specs.declared.raw.SiteRecord.{SiteRecord}
use Rattle.slices.specs.Order.{sorted}
use Rattle.node.specs.declared.kind.Kind.TheVariants.{Empty, XSpan, YSpan, Site}
use Rattle.node.specs.Kinds.{shape_of}
use Rattle.search.specs.Judging.{Judging}
use Rattle.search.specs.Visit.{FitsWhole}
use Rattle.site_figure.specs.Judge.{site_judging}
use Rattle.site_figure.specs.Halving.{Tree, none, one, both, tree_of, leaves_of}
use Rattle.site_figure.specs.Figure.{by_x, by_y, empty_rose, site_rose, y_rose, x_rose, x_tree}
use Rattle.records.specs.declared.raw.Rectangle.{Rectangle}
use Rattle.search.proofs.Shapes.{shapes_in}

abbrev pub site_shapes : Judging Rectangle
site_shapes = shapes_in site_judging

empty_fits : FitsWhole site_shapes empty_rose
empty_fits =
    (record { shape = shape_of Empty; judgeable = record { known = refl; counted = refl; fit = refl }; joined = refl }, tt)

site_fits : (s : SiteRecord) → FitsWhole site_shapes (site_rose s)
site_fits s =
    (record { shape = shape_of Site; judgeable = record { known = refl; counted = refl; fit = refl }; joined = refl }, tt)

y_fits : (t : Tree SiteRecord) → FitsWhole site_shapes (y_rose t)
y_fits none = empty_fits
y_fits (one s) = site_fits s
y_fits (both l r) = (
  record { shape = shape_of YSpan; judgeable = record { known = refl; counted = refl; fit = refl }; joined = refl },
  (y_fits l, (y_fits r, tt)),
)

x_fits : (t : Tree SiteRecord) → FitsWhole site_shapes (x_rose t)
x_fits none = empty_fits
x_fits (one s) = site_fits s
x_fits (both l r) = (
  record { shape = shape_of XSpan; judgeable = record { known = refl; counted = refl; fit = refl }; joined = refl },
  (x_fits l, (x_fits r, (y_fits (tree_of (sorted by_y (leaves_of l ++ leaves_of r))), tt))),
)

pub figure_fits : (sites : List SiteRecord) → FitsWhole site_shapes (x_tree sites)
figure_fits sites = x_fits (tree_of (sorted by_x sites))
