use Rattle.calls.proofs.Published.{published_sheets_show}
use Rattle.calls.proofs.promises.published_sheets_show_their_figure.Goals as goal

pub returns : goal.returns
returns g c = published_sheets_show g.C.Chart.judging
