-- FIPS 180-4: SHA-256 of a message of whole bytes.
use Rattle.std.specs.Prelude.{ℕ, zero, suc, ◌-◌, ◌*◌, ◌/◌, ◌%◌, ◌^◌, List, [], ◌∷◌, ◌++◌, length, take, drop, replicate}
use Rattle.sha256.specs.Constants.{H⁰}
use Rattle.sha256.specs.Compression.{compress}
use Rattle.sha256.specs.declared.words.Words.{Words}

-- A number as eight bytes, and a word as four, most significant byte first (section 3.1).
abbrev pub eight_bytes : ℕ → List ℕ
eight_bytes n =
    n / 2 ^ 56 % 256 ∷ n / 2 ^ 48 % 256 ∷ n / 2 ^ 40 % 256 ∷ n / 2 ^ 32 % 256 ∷ n / 2 ^ 24 % 256 ∷ n / 2 ^ 16 % 256 ∷
    n / 2 ^ 8 % 256 ∷ n % 256 ∷ []

abbrev pub four_bytes : ℕ → List ℕ
four_bytes n = n / 2 ^ 24 % 256 ∷ n / 2 ^ 16 % 256 ∷ n / 2 ^ 8 % 256 ∷ n % 256 ∷ []

-- Section 5.1.1: to a message of n bytes a bit 1 is appended, then as few bits 0 as leave 64 bits of the last block, then
-- the message's length in bits in those 64. In bytes: 128, then as many zeros as bring n + 1 to 56 modulo 64.
unfoldable pub padding : ℕ → List ℕ
padding n = 128 ∷ (replicate ((119 - n % 64) % 64) 0 ++ eight_bytes (8 * n))

abbrev pub padded : List ℕ → List ℕ
padded message = message ++ padding (length message)

-- Section 5.2.1: the block i of the bytes.
abbrev pub block_of : List ℕ → ℕ → List ℕ
block_of bytes i = take 64 (drop (64 * i) bytes)

-- Section 6.2.2: the hash value after the first i blocks of the bytes, begun at h.
unfoldable pub after : Words → List ℕ → ℕ → Words
after h bytes zero = h
after h bytes (suc i) = compress (after h bytes i) (block_of bytes i)

-- The eight words of a hash value in their order.
abbrev pub joined : Words → List ℕ
joined h =
    four_bytes h.a ++ (four_bytes h.b ++ (four_bytes h.c ++ (four_bytes h.d ++ (four_bytes h.e ++
    (four_bytes h.f ++ (four_bytes h.g ++ four_bytes h.h))))))

unfoldable pub sha256 : List ℕ → List ℕ
sha256 message = joined (after H⁰ (padded message) (length (padded message) / 64))
