use Rattle.search.proofs.Walking.{crowds_are_allowed, crowds_are_small, roses_are_walked_lem, roses_make_figures}
use Rattle.search.proofs.promises.roses_are_walked.Goals as goal

pub returns : goal.returns
returns g c =
    record {
      figures = roses_make_figures g.C.Chart.judging;
      walks = roses_are_walked_lem g.C.Chart.judging;
      crowds = crowds_are_allowed g.C.Chart.judging;
      levels = crowds_are_small g.C.Chart.judging;
    }
