use Rattle.std.proofs.Common.{◌≡◌, ◌∷◌, sym, ap, ◌∙◌}
use Rattle.std.proofs.lemmas.Bool.{cond-false, le-ltb}
use Rattle.script.specs.Command.{read_words}
use Rattle.script.specs.Words.{words_of}
use Rattle.script.proofs.read.read_command.Goals as goal

pub returns : goal.returns
returns c =
    let words : words_of c.args.line.now ≡ c.in-Some.verb.now ∷ words_of c.next.new.self.rest.now =
    ap words_of (sym c.new-words.ensures) ∙ c.in-Some.ensures.word
    in
    c.read_after.ensures
    ∙ (sym (ap (read_words c.args.kind) words) ∙ sym (cond-false _ _ _ (le-ltb _ _ c.if-line-gt-LONGEST_LINE.false)))
