-- The promises, from what is true of the sites that a register can hold.
use Rattle.std.proofs.Common.{◌≡◌, ◌≤◌, leb, ◌++◌, length, Ok, Err, sym, ap, ◌∙◌, arith}
use Rattle.std.proofs.lemmas.Bool.{cond-true, le-leb}
use Rattle.refusal.specs.declared.Refusal.TheVariants.{SheetTooSmall}
use Rattle.search.specs.Sheet.{usable}
use Rattle.sites.proofs.Orderly.{orderly}
use Rattle.search.specs.Rose.{two, three}
use Rattle.site_figure.specs.Halving.{both, tree_of, leaves_of, left_half, right_half}
use Rattle.site_figure.specs.Figure.{span_of, x_rose, y_rose, y_tree, site_figure}
use Rattle.site_figure.specs.Promises.{TreesHalveTheirSites, FiguresAreFit, FiguresHaveFewLevels, FewWait, VisitsAreShort, FiguresHaveFewNodes, FiguresHaveRoom}
use Rattle.site_figure.proofs.Halves.{leaves_tree_of, tree_of_halves}
use Rattle.site_figure.proofs.Fitness.{figure_fits}
use Rattle.site_figure.proofs.Levels.{figure_levels}
use Rattle.site_figure.proofs.Crowds.{figure_crowd}
use Rattle.site_figure.proofs.Bytes.{figure_bytes}
use Rattle.site_figure.proofs.Nodes.{figure_nodes}

pub trees_halve : TreesHalveTheirSites
trees_halve sites many =
    let halves : tree_of sites ≡ both (tree_of (left_half sites)) (tree_of (right_half sites)) = tree_of_halves sites many in
    let all : leaves_of (tree_of (left_half sites)) ++ leaves_of (tree_of (right_half sites)) ≡ sites =
    ap leaves_of (sym halves) ∙ leaves_tree_of sites in (
      ap x_rose halves ∙ ap (λ l. three 4 (span_of (λ s. s.x) l) (x_rose (tree_of (left_half sites))) (x_rose (tree_of (right_half sites))) (y_tree l)) all,
      ap y_rose halves ∙ ap (λ l. two 5 (span_of (λ s. s.y) l) (y_rose (tree_of (left_half sites))) (y_rose (tree_of (right_half sites)))) all,
    )

pub figures_are_fit_lem : FiguresAreFit
figures_are_fit_lem held h = figure_fits held (orderly held h).fields

pub figures_have_few_levels : FiguresHaveFewLevels
figures_have_few_levels held h = figure_levels held (orderly held h).few

pub few_wait_lem : FewWait
few_wait_lem held q h = figure_crowd q held (orderly held h).few

pub visits_are_short_lem : VisitsAreShort
visits_are_short_lem held q h = figure_bytes q held (orderly held h).few

pub figures_have_few_nodes_lem : FiguresHaveFewNodes
figures_have_few_nodes_lem held h = figure_nodes held (orderly held h).few

pub figures_have_room : FiguresHaveRoom
figures_have_room held sheet h large =
    let few : length (site_figure held) ≤ usable sheet = omega (arith, figures_have_few_nodes_lem held h) in
    cond-true (leb (length (site_figure held)) (usable sheet)) (Ok (length (site_figure held))) (Err SheetTooSmall) (le-leb (length (site_figure held)) (usable sheet) few)
