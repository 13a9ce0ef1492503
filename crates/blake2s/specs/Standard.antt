-- RFC 7693, section 3.3: BLAKE2s-256 without a key, of a message of whole bytes.
use Rattle.std.specs.Prelude.{ℕ, zero, suc, ◌+◌, ◌-◌, ◌*◌, ◌/◌, ◌%◌, ◌^◌, true, false, List, [], ◌∷◌, ◌++◌, length, take, drop, replicate, bit_xor, slice_index}
use Rattle.blake2s.specs.Constants.{IV}
use Rattle.blake2s.specs.Mixing.{F}

-- The state at first: IV, with the parameter block's first word xored into its first word, 32 bytes of digest and no key.
abbrev pub parameters : ℕ
parameters = 0x0101_0020

unfoldable pub first_state : List ℕ
first_state =
    bit_xor (slice_index IV 0) parameters ∷ slice_index IV 1 ∷ slice_index IV 2 ∷ slice_index IV 3 ∷ slice_index IV 4 ∷ slice_index IV 5 ∷ slice_index IV 6 ∷
    slice_index IV 7 ∷ []

-- The block i of the message. The last one is filled up with zeros.
abbrev pub block_of : List ℕ → ℕ → List ℕ
block_of message i = take 64 (drop (64 * i) message)

abbrev pub filled : List ℕ → List ℕ
filled bytes = bytes ++ replicate (64 - length bytes) 0

-- How many blocks come before the last one, which has 1 to 64 bytes, or none where the message is empty.
abbrev pub earlier : List ℕ → ℕ
earlier message = (length message - 1) / 64

-- The state after the first i blocks of the message, none of them its last; the count is of the bytes up to each.
unfoldable pub after : List ℕ → ℕ → List ℕ
after message zero = first_state
after message (suc i) = F (after message i) (block_of message i) (64 * (i + 1)) false

-- The state after the last block, under the count of all bytes and the final flag.
unfoldable pub finished : List ℕ → List ℕ
finished message =
    F (after message (earlier message)) (filled (block_of message (earlier message))) (length message) true

-- A word as four bytes, least significant byte first, and the eight words of the state in their order.
abbrev pub four_bytes : ℕ → List ℕ
four_bytes n = n % 256 ∷ n / 2 ^ 8 % 256 ∷ n / 2 ^ 16 % 256 ∷ n / 2 ^ 24 % 256 ∷ []

abbrev pub joined : List ℕ → List ℕ
joined h =
    four_bytes (slice_index h 0) ++ (four_bytes (slice_index h 1) ++ (four_bytes (slice_index h 2) ++ (four_bytes (slice_index h 3) ++
    (four_bytes (slice_index h 4) ++ (four_bytes (slice_index h 5) ++ (four_bytes (slice_index h 6) ++ four_bytes (slice_index h 7)))))))

unfoldable pub blake2s : List ℕ → List ℕ
blake2s message = joined (finished message)
