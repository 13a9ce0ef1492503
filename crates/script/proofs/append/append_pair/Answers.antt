use Rattle.std.proofs.Common.{refl}
use Rattle.script.proofs.Growing.{grown_then, grown_stop}
use Rattle.script.proofs.append.append_pair.Goals as goal

pub returns-in_err-append_text : goal.returns-in_err-append_text
returns-in_err-append_text c = grown_stop c.from_residual.ensures.0 c.args.second.now refl c.in_err-append_text.ensures

pub returns : goal.returns
returns c = grown_then refl c.in_ok-append_text.ensures c.append_text-2.ensures
