use Rattle.std.proofs.Common.{◌≡◌, ◌+◌, ◌*◌, ◌≤◌, ◌++◌, length, take, vec_items, vec_len, vec_capacity}
use Rattle.std.specs.List.{flat_map}
use Rattle.hex_text.specs.Hex.{digits_of}
use Rattle.hex_text.proofs.encode.encode.Given as goal

abbrev pub invariant-loop-byte : goal.invariant-loop-byte
invariant-loop-byte l =
    (vec_items l.out ≡ vec_items l.initial.out ++ flat_map digits_of (take l.byte-index l.bytes))
    × ((vec_len l.out + 2 * length l.bytes ≤ vec_capacity l.out + 2 * l.byte-index) × (vec_capacity l.initial.out ≤ vec_capacity l.out))
