use Rattle.std.proofs.Common.{arith}
use Rattle.std.proofs.lemmas.Bool.Decides.{nat_tests}
use Rattle.script.proofs.Growing.{grown_at}
use Rattle.script.proofs.Fields.{some_sites}
use Rattle.script.proofs.append.append_sites.Goals as goal

pub returns : goal.returns
returns c = grown_at (some_sites c.args.numbers.now (grind (arith, nat_tests))) c.append_words.ensures
