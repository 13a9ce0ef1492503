-- Parts of a list of bytes.
use Rattle.std.specs.Prelude.{ℕ, ◌/◌, List, map, length, take, drop, ℤ}
use Rattle.std.specs.Simd.{first_chunks}
use Rattle.node.specs.Xdr.{int_of}

-- The n bytes from a place on.
abbrev pub part : List ℕ → ℕ → ℕ → List ℕ
part bytes at n = take n (drop at bytes)

-- The integers that number bytes represent, four bytes each.
abbrev pub numbers_in : List ℕ → List ℤ
numbers_in bytes = map int_of (first_chunks 4 (length bytes / 4) bytes)

-- The digests in successor bytes, 32 bytes each.
abbrev pub digests_in : List ℕ → List (List ℕ)
digests_in bytes = first_chunks 32 (length bytes / 32) bytes
