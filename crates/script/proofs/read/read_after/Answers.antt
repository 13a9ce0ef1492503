use Rattle.std.proofs.Common.{◌≡◌, ◌∷◌, codes, sym, ap, ◌∙◌, rules}
use Rattle.script.specs.Command.{read_words}
use Rattle.script.specs.Words.{words_of}
use Rattle.script.proofs.Spelled.{six}
use Rattle.script.proofs.read.read_after.Goals as goal

pub returns-in-remove : goal.returns-in-remove
returns-in-remove c =
    let spelled : c.args.verb.now ≡ codes "remove" = search (six, rules) in
    c.read_remove.ensures ∙ ap (λ verb. read_words c.args.kind (verb ∷ words_of c.args.words.now.rest.now)) (sym spelled)

pub returns-in-answer : goal.returns-in-answer
returns-in-answer c =
    let spelled : c.args.verb.now ≡ codes "answer" = search (six, rules) in
    c.read_answer.ensures ∙ ap (λ verb. read_words c.args.kind (verb ∷ words_of c.args.words.now.rest.now)) (sym spelled)
