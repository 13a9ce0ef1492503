use Rattle.std.proofs.Common.{sym, ◌∙◌}
use Rattle.script.specs.Words.{words_of}
use Rattle.script.proofs.Numbers.{number_more, number_none}
use Rattle.script.proofs.words.Words.rectangle.Goals as goal

pub returns-in_err-north-clause-rest : goal.returns-in_err-north-clause-rest
returns-in_err-north-clause-rest c =
    let at_west = words_of c.args.self.now.rest.now in
    let at_east = words_of c.number.new.self.rest.now in
    let at_south = words_of c.number-2.new.self.rest.now in
    let at_north = words_of c.number-3.new.self.rest.now in
    let after = words_of c.number-4.new.self.rest.now in
    number_none 0 after at_north c.in_err-north.ensures.value c.number-4.ensures.rest
    ∙ sym (number_more 3 c.in_ok-west.west at_east at_west c.in_ok-west.ensures.value
    ∙ (number_more 2 c.in_ok-east.east at_south at_east c.in_ok-east.ensures.value
    ∙ number_more 1 c.in_ok-south.south at_north at_south c.in_ok-south.ensures.value))

pub returns-clause-rest : goal.returns-clause-rest
returns-clause-rest c =
    let at_west = words_of c.args.self.now.rest.now in
    let at_east = words_of c.number.new.self.rest.now in
    let at_south = words_of c.number-2.new.self.rest.now in
    let at_north = words_of c.number-3.new.self.rest.now in
    let after = words_of c.number-4.new.self.rest.now in
    sym (number_more 3 c.in_ok-west.west at_east at_west c.in_ok-west.ensures.value
    ∙ (number_more 2 c.in_ok-east.east at_south at_east c.in_ok-east.ensures.value
    ∙ (number_more 1 c.in_ok-south.south at_north at_south c.in_ok-south.ensures.value
    ∙ number_more 0 c.in_ok-north.north after at_north c.in_ok-north.ensures.value)))
