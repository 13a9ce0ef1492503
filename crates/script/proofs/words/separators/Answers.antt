use Rattle.std.proofs.Common.{ℕ, rules, drop, not, sym, ap, ◌∙◌}
use Rattle.std.proofs.lemmas.Iterator.{YieldsList-from_slice}
use Rattle.std.proofs.lemmas.Iterator.Search.{position_from_yields_List}
use borrow.Author.Tests.{tests}
use Rattle.script.specs.Words.{is_separator, words_of}
use Rattle.script.proofs.Pieces.{found_or_len, separators_skipped}
use Rattle.script.proofs.words.separators.Goals as goal

pub returns-clause-skips : goal.returns-clause-skips
returns-clause-skips c =
    let line = c.args.line.now in
    let other = λ (b : ℕ). not (is_separator b) in
    let found = position_from_yields_List other _ _ c.position.result c.position.ensures.ran (YieldsList-from_slice line c.iter.ensures.rest) (λ y b q k. search (rules, tests)) in
    separators_skipped line ∙ ap (λ n. words_of (drop n line)) (sym (c.unwrap_or.ensures ∙ found_or_len other line c.position.result found))
