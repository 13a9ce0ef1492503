use Rattle.std.proofs.Common.{◌≡◌, length, take}
use Rattle.hex_text.specs.Hex.{bytes_in}
use Rattle.hex_text.proofs.digest.decode_digest.Given as goal

-- The bytes so far stand in front.
abbrev pub invariant-loop-i : goal.invariant-loop-i
invariant-loop-i l = (take l.i l.bytes ≡ take l.i (bytes_in l.text)) × (length l.bytes ≡ 32)
