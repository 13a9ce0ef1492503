-- How many levels a figure of sites has.
use Rattle.std.proofs.Common.{suc, ◌+◌, ◌≤◌, List, length, arith}
use Rattle.records.specs.declared.raw.SiteRecord.{SiteRecord}
use Rattle.slices.specs.Order.{sorted}
use Rattle.search.specs.Rose.{levels}
use Rattle.site_figure.specs.Halving.{Tree, none, one, both, tree_of, leaves_of}
use Rattle.site_figure.specs.Figure.{by_x, by_y, y_rose, x_rose, x_tree}
use Rattle.site_figure.proofs.Halves.{height}
use Rattle.site_figure.proofs.SortedTrees.{height_sorted_leaves, height_few}

y_levels : (t : Tree SiteRecord) → levels (y_rose t) ≤ suc (height t)
y_levels none = omega arith
y_levels (one s) = omega arith
y_levels (both l r) = omega (arith, y_levels l, y_levels r)

-- the y tree of all sites of a span has no more levels than the x tree, so it adds one level in all
x_levels : (t : Tree SiteRecord) → levels (x_rose t) ≤ height t + 2
x_levels none = omega arith
x_levels (one s) = omega arith
x_levels (both l r) =
    omega (arith, x_levels l, x_levels r, y_levels (tree_of (sorted by_y (leaves_of (both l r)))), height_sorted_leaves by_y (both l r))

pub figure_levels : (sites : List SiteRecord) → length sites ≤ 128 → levels (x_tree sites) ≤ 9
figure_levels sites few = omega (arith, x_levels (tree_of (sorted by_x sites)), height_few by_x sites few)
