use Rattle.std.proofs.Common.{◌≡◌, ◌+◌, ◌≤◌, ◌++◌, length, take, vec_items, vec_len, vec_capacity}
use Rattle.hex_text.specs.Hex.{bytes_in}
use Rattle.hex_text.proofs.decode.decode.Given as goal

abbrev pub invariant-loop-high : goal.invariant-loop-high
invariant-loop-high l =
    (vec_items l.out ≡ vec_items l.initial.out ++ take l.high-index (bytes_in l.text))
    × ((vec_len l.out + length (bytes_in l.text) ≤ vec_capacity l.out + l.high-index) × (vec_capacity l.initial.out ≤ vec_capacity l.out))
