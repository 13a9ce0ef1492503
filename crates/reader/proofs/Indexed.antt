-- The items of equal size in a list of bytes, by their index.
use Rattle.std.proofs.Common.{◌≡◌, ℕ, zero, suc, ◌*◌, ◌<◌, List, [], length, drop, Some, refl, ap, ◌∙◌, arith}
use Rattle.std.specs.List.{slice_get}
use Rattle.std.specs.Simd.{first_chunks}
use Rattle.std.proofs.lemmas.Option.{slice_get-get_or}
use Rattle.digest.proofs.Chunks.{get_or_chunked}
use Rattle.reader.specs.Parts.{part}

pub chunked_length : (n k : ℕ) (xs : List ℕ) → length (first_chunks n k xs) ≡ k
chunked_length n zero xs = refl
chunked_length n (suc k) xs = ap suc (chunked_length n k (drop n xs))

pub chunk_at : (n k : ℕ) (bytes : List ℕ) (i : ℕ) → i < k → slice_get (first_chunks n k bytes) i ≡ Some (part bytes (n * i) n)
chunk_at n k bytes i within =
    slice_get-get_or (first_chunks n k bytes) i [] (omega (arith, chunked_length n k bytes)) ∙ ap Some (get_or_chunked n k bytes i within)
