use Rattle.site_figure.proofs.Lawful.{rectangles_are_answered_lem}
use Rattle.site_figure.proofs.promises.rectangles_are_answered.Goals as goal

pub returns : goal.returns
returns c = rectangles_are_answered_lem
