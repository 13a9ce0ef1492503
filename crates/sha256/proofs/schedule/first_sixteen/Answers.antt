use Rattle.std.proofs.Common.{sym, ◌∙◌, lit<}
use Rattle.sha256.proofs.ScheduleWords.{own_word}
use Rattle.sha256.proofs.schedule.first_sixteen.Goals as goal

pub returns : goal.returns
returns c =
    let block = c.args.block.now in
    let e0 = c.word.ensures ∙ sym (own_word block 0 (lit< tt)) in
    let e1 = c.word-2.ensures ∙ sym (own_word block 1 (lit< tt)) in
    let e2 = c.word-3.ensures ∙ sym (own_word block 2 (lit< tt)) in
    let e3 = c.word-4.ensures ∙ sym (own_word block 3 (lit< tt)) in
    let e4 = c.word-5.ensures ∙ sym (own_word block 4 (lit< tt)) in
    let e5 = c.word-6.ensures ∙ sym (own_word block 5 (lit< tt)) in
    let e6 = c.word-7.ensures ∙ sym (own_word block 6 (lit< tt)) in
    let e7 = c.word-8.ensures ∙ sym (own_word block 7 (lit< tt)) in
    let e8 = c.word-9.ensures ∙ sym (own_word block 8 (lit< tt)) in
    let e9 = c.word-10.ensures ∙ sym (own_word block 9 (lit< tt)) in
    let e10 = c.word-11.ensures ∙ sym (own_word block 10 (lit< tt)) in
    let e11 = c.word-12.ensures ∙ sym (own_word block 11 (lit< tt)) in
    let e12 = c.word-13.ensures ∙ sym (own_word block 12 (lit< tt)) in
    let e13 = c.word-14.ensures ∙ sym (own_word block 13 (lit< tt)) in
    let e14 = c.word-15.ensures ∙ sym (own_word block 14 (lit< tt)) in
    let e15 = c.word-16.ensures ∙ sym (own_word block 15 (lit< tt)) in
    cc
