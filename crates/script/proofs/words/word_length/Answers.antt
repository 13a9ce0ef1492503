use Rattle.std.proofs.Common.{◌≡◌, rules, ◌∷◌, take, drop, not, sym, ap, ◌∙◌, arith}
use Rattle.std.proofs.lemmas.Iterator.{YieldsList-from_slice}
use Rattle.std.proofs.lemmas.Iterator.Search.{position_from_yields_List}
use Rattle.std.proofs.lemmas.List.Sums.{prefix_len-le-length}
use borrow.Author.Tests.{tests}
use Rattle.script.specs.Words.{words_of}
use Rattle.script.proofs.Pieces.{ends_word, first_word, found_or_len, no_word, word_end}
use Rattle.script.proofs.words.word_length.Goals as goal

pub returns : goal.returns
returns c =
    let line = c.args.line.now in
    let found = position_from_yields_List ends_word _ _ c.position.result c.position.ensures.ran (YieldsList-from_slice line c.iter.ensures.rest) (λ y b q k. search (rules, tests)) in
    let end : c.unwrap_or.result ≡ word_end line = c.unwrap_or.ensures ∙ found_or_len ends_word line c.position.result found in
    record {
      within = omega (arith, end, prefix_len-le-length (λ b. not (ends_word b)) line);
      none = λ e. no_word line (sym end ∙ e) c.requires;
      some = λ h. first_word line (omega (arith, end)) ∙ ap (λ n. take n line ∷ words_of (drop n line)) (sym end);
    }
