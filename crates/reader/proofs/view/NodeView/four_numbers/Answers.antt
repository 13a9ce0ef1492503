use Rattle.std.proofs.Common.{◌≡◌, length, take, ap, ◌∙◌, arith}
use Rattle.std.proofs.lemmas.Grind.{common_steps}
use Rattle.reader.specs.Parts.{numbers_in}
use Rattle.reader.specs.Views.{four_numbers, seen_in}
use Rattle.reader.proofs.FourNumbers.{four_of}
use Rattle.reader.proofs.view.NodeView.four_numbers.Goals as goal

pub returns-clause-cut : goal.returns-clause-cut
returns-clause-cut c =
    let numbers = numbers_in c.args.self.now.numbers.now in
    let four : c.from_fn.result ≡ four_numbers (seen_in c.args.self.now) = grind (arith, common_steps) in
    λ few. ap (take (length numbers)) four ∙ four_of numbers few
