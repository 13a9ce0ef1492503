-- Each arm's text is the table's, at the variant that the arm has.
use mathlib.Core.Path.{sym, ap}
use Rattle.refusal.specs.Table.{words_of}
use Rattle.refusal.proofs.Refusal.words.Goals as goal

pub returns-in-SheetTooSmall : goal.returns-in-SheetTooSmall
returns-in-SheetTooSmall c = sym (ap words_of c.in-SheetTooSmall.is)

pub returns-in-ProofTooLong : goal.returns-in-ProofTooLong
returns-in-ProofTooLong c = sym (ap words_of c.in-ProofTooLong.is)

pub returns-in-AnswerBufferFull : goal.returns-in-AnswerBufferFull
returns-in-AnswerBufferFull c = sym (ap words_of c.in-AnswerBufferFull.is)

pub returns-in-StackFull : goal.returns-in-StackFull
returns-in-StackFull c = sym (ap words_of c.in-StackFull.is)

pub returns-in-MessageTooLong : goal.returns-in-MessageTooLong
returns-in-MessageTooLong c = sym (ap words_of c.in-MessageTooLong.is)
