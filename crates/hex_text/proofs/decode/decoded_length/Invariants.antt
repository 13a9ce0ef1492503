use Rattle.std.proofs.Common.{◌≡◌, ◌*◌, drop}
use Rattle.hex_text.proofs.Pairs.{counted, past}
use Rattle.hex_text.proofs.decode.decoded_length.Given as goal

abbrev pub invariant-loop-high : goal.invariant-loop-high
invariant-loop-high l = counted l.fn.text ≡ past l.high-index (counted (drop (2 * l.high-index) l.fn.text))
