-- What a digest holds are bytes.
use Rattle.std.specs.Prelude.{ℕ, ◌/◌, ◌^◌, ◌<◌, slice_index}
use Rattle.digest.proofs.Bytes.{AllBytes, four_bytes_lem, eight_words}
use Rattle.sha256.specs.Standard.{four_bytes, joined}
use Rattle.sha256.specs.declared.words.Words.{Words}

word_bytes : (n : ℕ) → AllBytes (four_bytes n)
word_bytes n = four_bytes_lem (n / 2 ^ 24) (n / 2 ^ 16) (n / 2 ^ 8) n

pub joined_bytes : (h : Words) (place : ℕ) → slice_index (joined h) place < 256
joined_bytes h =
    eight_words (four_bytes h.a) (four_bytes h.b) (four_bytes h.c) (four_bytes h.d) (four_bytes h.e)
    (four_bytes h.f) (four_bytes h.g) (four_bytes h.h) (word_bytes h.a) (word_bytes h.b) (word_bytes h.c)
    (word_bytes h.d) (word_bytes h.e) (word_bytes h.f) (word_bytes h.g) (word_bytes h.h)
