use Rattle.std.proofs.Common.{length}
use Rattle.site_chart.proofs.drawing.+draw_tree.Given as goal

abbrev pub decreases-draw_tree : goal.decreases-draw_tree
decreases-draw_tree g l = length l.row.now.sites.now
