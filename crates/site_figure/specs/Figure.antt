-- The figure of the held sites, and the site chart's drawing.
use Rattle.std.specs.Prelude.{Bool, ◌&&◌, ◌||◌, List, [], ◌∷◌, ◌++◌, map, ℤ, pos, int_le, int_lt}
use Rattle.std.specs.Int.{int_min, int_max}
use Rattle.records.specs.declared.raw.SiteRecord.{SiteRecord}
use Rattle.records.specs.declared.raw.Rectangle.{Rectangle}
use Rattle.slices.specs.Order.{sorted}
use Rattle.sites.specs.Site.{number_of, add_refusal}
use Rattle.sites.specs.Question.{sites_in}
use Rattle.node.specs.declared.kind.Kind.TheVariants.{Empty, XSpan, YSpan, Site}
use Rattle.node.specs.Kinds as kinds
use Rattle.search.specs.Node.{Node}
use Rattle.search.specs.Drawing.{Drawing}
use Rattle.search.specs.Rose.{Rose, leaf, two, three}
use Rattle.search.specs.Making.{figure_of}
use Rattle.site_figure.specs.Halving.{Tree, none, one, both, tree_of, leaves_of}

-- By x, then number.
abbrev pub by_x : SiteRecord → SiteRecord → Bool
by_x r s = int_lt r.x s.x || (int_le r.x s.x && int_le r.number s.number)

-- By y, then number.
abbrev pub by_y : SiteRecord → SiteRecord → Bool
by_y r s = int_lt r.y s.y || (int_le r.y s.y && int_le r.number s.number)

-- The least of some integers, and the greatest; 0 of none.
abbrev pub least_from : ℤ → List ℤ → ℤ
least_from z [] = z
least_from z (w ∷ ws) = least_from (int_min z w) ws

abbrev pub least : List ℤ → ℤ
least [] = pos 0
least (z ∷ zs) = least_from z zs

abbrev pub greatest_from : ℤ → List ℤ → ℤ
greatest_from z [] = z
greatest_from z (w ∷ ws) = greatest_from (int_max z w) ws

abbrev pub greatest : List ℤ → ℤ
greatest [] = pos 0
greatest (z ∷ zs) = greatest_from z zs

-- The least and the greatest coordinate of some sites.
abbrev pub span_of : (SiteRecord → ℤ) → List SiteRecord → List ℤ
span_of coordinate sites = least (map coordinate sites) ∷ greatest (map coordinate sites) ∷ []

abbrev pub empty_rose : Rose
empty_rose = leaf (kinds.number_of Empty) []

abbrev pub site_rose : SiteRecord → Rose
site_rose s = leaf (kinds.number_of Site) (s.number ∷ s.x ∷ s.y ∷ [])

-- A y span has the y trees of the two halves as left and right.
abbrev pub y_rose : Tree SiteRecord → Rose
y_rose none = empty_rose
y_rose (one s) = site_rose s
y_rose (both l r) = two (kinds.number_of YSpan) (span_of (λ s. s.y) (leaves_of l ++ leaves_of r)) (y_rose l) (y_rose r)

-- The y tree of some sites.
abbrev pub y_tree : List SiteRecord → Rose
y_tree sites = y_rose (tree_of (sorted by_y sites))

-- An x span has the x trees of the two halves as left and right, and the y tree of all its sites as across.
abbrev pub x_rose : Tree SiteRecord → Rose
x_rose none = empty_rose
x_rose (one s) = site_rose s
x_rose (both l r) =
    three (kinds.number_of XSpan) (span_of (λ s. s.x) (leaves_of l ++ leaves_of r)) (x_rose l) (x_rose r) (y_tree (leaves_of l ++ leaves_of r))

-- The x tree of some sites.
abbrev pub x_tree : List SiteRecord → Rose
x_tree sites = x_rose (tree_of (sorted by_x sites))

-- The figure is the x tree of all held sites, alike nodes made once.
abbrev pub site_figure : List SiteRecord → List Node
site_figure held = figure_of (x_tree held)

abbrev pub site_drawing : Drawing SiteRecord Rectangle
site_drawing = record { number_of = number_of; add_refusal = add_refusal; figure = site_figure; answer = sites_in }
