-- What a digest holds are bytes.
use Rattle.std.specs.Prelude.{ℕ, ◌/◌, ◌^◌, ◌<◌, List, slice_index}
use Rattle.digest.proofs.Bytes.{AllBytes, four_bytes_lem, eight_words}
use Rattle.blake2s.specs.Standard.{four_bytes, joined}

word_bytes : (n : ℕ) → AllBytes (four_bytes n)
word_bytes n = four_bytes_lem n (n / 2 ^ 8) (n / 2 ^ 16) (n / 2 ^ 24)

pub joined_bytes : (h : List ℕ) (place : ℕ) → slice_index (joined h) place < 256
joined_bytes h =
    eight_words (four_bytes (slice_index h 0)) (four_bytes (slice_index h 1)) (four_bytes (slice_index h 2)) (four_bytes (slice_index h 3)) (four_bytes (slice_index h 4))
    (four_bytes (slice_index h 5)) (four_bytes (slice_index h 6)) (four_bytes (slice_index h 7)) (word_bytes (slice_index h 0)) (word_bytes (slice_index h 1)) (word_bytes (slice_index h 2))
    (word_bytes (slice_index h 3)) (word_bytes (slice_index h 4)) (word_bytes (slice_index h 5)) (word_bytes (slice_index h 6)) (word_bytes (slice_index h 7))
