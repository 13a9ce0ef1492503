use Rattle.std.proofs.Common.{length}
use Rattle.zone_chart.proofs.drawing.+draw_edges.Given as goal

abbrev pub decreases-draw_edges : goal.decreases-draw_edges
decreases-draw_edges l = length l.edges.now
