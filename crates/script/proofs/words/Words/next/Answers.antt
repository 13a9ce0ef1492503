use Rattle.std.proofs.Common.{drop, sym, refl, ap, ◌∙◌, arith}
use Rattle.script.proofs.Pieces.{first_kept, none_from, word_from}
use Rattle.script.proofs.words.Words.next.Goals as goal

pub word_length-len-requires : goal.word_length-len-requires
word_length-len-requires c =
    first_kept c.args.self.now.rest.now c.separators-start.result c.separators-start.ensures.within c.separators-start.ensures.stops

pub returns-then-len-eq0 : goal.returns-then-len-eq0
returns-then-len-eq0 c =
    let none = none_from c.args.self.now.rest.now c.separators-start.result c.separators-start.ensures.skips (c.word_length-len.ensures.none c.if-len-eq0.true) in
    record { word = none; rest = none ∙ sym (ap (drop 1) none) }

pub returns : goal.returns
returns c =
    let some = word_from c.args.self.now.rest.now _ c.separators-start.result c.word_length-len.result refl c.separators-start.ensures.skips (c.word_length-len.ensures.some (omega arith)) in
    record { word = some; rest = sym (ap (drop 1) some) }
