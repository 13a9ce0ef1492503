-- Bytes written into a lent buffer from a place on.
use Rattle.std.specs.Prelude.{ℕ, ◌+◌, Bool, cond, ◌&&◌, List, ◌++◌, length, take, drop, ℤ, Ok, Err, Result, nat_le}
use Rattle.node.specs.declared.writing.NoRoom.{NoRoom}
use Rattle.node.specs.declared.writing.NotWritten.{NotWritten}
use Rattle.node.specs.declared.writing.NotWritten.TheVariants as not_written
use Rattle.node.specs.Strings.{string_of}

-- The buffer with the bytes in it from the place on; all else is as it was.
abbrev pub put_at : List ℕ → ℕ → List ℕ → List ℕ
put_at buffer at bytes = take at buffer ++ (bytes ++ drop (at + length bytes) buffer)

-- The bytes fit between the place and the end of the buffer.
abbrev pub has_room : List ℕ → ℕ → List ℕ → Bool
has_room buffer at bytes = nat_le (at + length bytes) (length buffer)

-- Writing answers the place after the bytes, or that there is no room, and then the buffer is as it was.
abbrev pub written_end : List ℕ → ℕ → List ℕ → Result ℕ NoRoom
written_end buffer at bytes = cond (has_room buffer at bytes) (Ok (at + length bytes)) (Err (record {}))

abbrev pub written : List ℕ → ℕ → List ℕ → List ℕ
written buffer at bytes = cond (has_room buffer at bytes) (put_at buffer at bytes) buffer

-- A string has at most four numbers and three successors' digests.
abbrev pub is_string : List ℤ → List (List ℕ) → Bool
is_string numbers digests = nat_le (length numbers) 4 && nat_le (length digests) 3

-- A whole string, or why it is not written; then the buffer is as it was.
abbrev pub written_string_end : List ℕ → ℕ → ℕ → List ℤ → List (List ℕ) → Result ℕ NotWritten
written_string_end buffer at kind numbers digests =
    let bytes = string_of kind numbers digests in
    cond (is_string numbers digests)
    (cond (has_room buffer at bytes) (Ok (at + length bytes)) (Err not_written.NoRoom))
    (Err not_written.TooManyParts)

abbrev pub written_string : List ℕ → ℕ → ℕ → List ℤ → List (List ℕ) → List ℕ
written_string buffer at kind numbers digests =
    cond (is_string numbers digests) (written buffer at (string_of kind numbers digests)) buffer
