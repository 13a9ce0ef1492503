use Rattle.std.proofs.Common.{length}
use Rattle.zone_chart.proofs.drawing.+draw_run.Given as goal

abbrev pub decreases-draw_run : goal.decreases-draw_run
decreases-draw_run l = length l.bounds.now
