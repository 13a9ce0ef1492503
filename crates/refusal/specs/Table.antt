-- The table of refusals: the number of each, and the reason in the words that are printed.
use Rattle.std.specs.Prelude.{ℕ, List, codes}
use Rattle.refusal.specs.declared.Refusal.{Refusal}
use Rattle.refusal.specs.declared.Refusal.TheVariants.{FieldOutOfRange, NumberHeld, EdgeConflict, RegisterFull, NumberNotHeld, SheetTooSmall, SheetUnsound, ProofBufferFull, QuestionOutOfBounds, NoRootAdopted, RootLength, ProofTooLong, StringCutShort, KindNotKnown, DigestMismatch, NumbersUnfit, AnswerBufferFull, StackFull, BytesLeftOver, MessageTooLong}

abbrev pub number_of : Refusal → ℕ
number_of FieldOutOfRange = 1
number_of NumberHeld = 2
number_of EdgeConflict = 3
number_of RegisterFull = 4
number_of NumberNotHeld = 5
number_of SheetTooSmall = 6
number_of SheetUnsound = 7
number_of ProofBufferFull = 8
number_of QuestionOutOfBounds = 9
number_of NoRootAdopted = 10
number_of RootLength = 11
number_of ProofTooLong = 12
number_of StringCutShort = 13
number_of KindNotKnown = 14
number_of DigestMismatch = 15
number_of NumbersUnfit = 16
number_of AnswerBufferFull = 17
number_of StackFull = 18
number_of BytesLeftOver = 19
number_of MessageTooLong = 20

abbrev pub words_of : Refusal → List ℕ
words_of FieldOutOfRange = codes "a field is out of its range, or the left end is not west of the right end"
words_of NumberHeld = codes "the number is held already"
words_of EdgeConflict = codes "the edge conflicts with a held one"
words_of RegisterFull = codes "the register is full"
words_of NumberNotHeld = codes "the number is not held"
words_of SheetTooSmall = codes "the figure has more nodes than the sheet has usable records"
words_of SheetUnsound = codes "the count or a record of the sheet is not sound"
words_of ProofBufferFull = codes "the next string does not fit in the buffer"
words_of QuestionOutOfBounds = codes "a coordinate of the question is out of range, or its limits run backward"
words_of NoRootAdopted = codes "no root is adopted"
words_of RootLength = codes "the root is not 32 bytes long"
words_of ProofTooLong = codes "the proof is over 65535 bytes long"
words_of StringCutShort = codes "the bytes end inside a string"
words_of KindNotKnown = codes "the kind is not known to this chart"
words_of DigestMismatch = codes "the string has not the digest looked for"
words_of NumbersUnfit = codes "the numbers of the string are unfit"
words_of AnswerBufferFull = codes "there are more numbers than the answer buffer holds"
words_of StackFull = codes "more than 64 nodes are waiting"
words_of BytesLeftOver = codes "bytes remain and nothing is waiting"
words_of MessageTooLong = codes "the message is over 65535 bytes long"
