use Rattle.script.specs.Words.{words_of}
use Rattle.byte_commands.proofs.HexWords.{is_hex, is_no_hex}
use Rattle.byte_commands.proofs.read.hex_word.Goals as goal

pub returns-in_err-decoded_length-clause-word : goal.returns-in_err-decoded_length-clause-word
returns-in_err-decoded_length-clause-word c =
    rw c.from_residual-in_err-decoded_length.ensures
    (is_no_hex (words_of c.args.words.now.rest.now) c.in_ok-word.word.now (words_of c.next.new.self.rest.now) c.in_ok-word.ensures.word c.in_err-decoded_length.ensures)

pub returns-clause-word : goal.returns-clause-word
returns-clause-word c =
    is_hex (words_of c.args.words.now.rest.now) c.in_ok-word.word.now (words_of c.next.new.self.rest.now) c.in_ok-decoded_length.field-0 c.in_ok-word.ensures.word c.in_ok-decoded_length.ensures
