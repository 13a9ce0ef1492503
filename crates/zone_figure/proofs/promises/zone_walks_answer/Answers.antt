use Rattle.zone_figure.proofs.promises.zone_walks_answer.Goals as goal
use Rattle.zone_figure.proofs.Alone.{walks_wait_alone}
use Rattle.zone_figure.proofs.Figures.{visits_answer, walks_answer}

pub returns : goal.returns
returns c = record { visits = visits_answer; walks = walks_answer; waiting = walks_wait_alone }
