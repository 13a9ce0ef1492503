-- Items of equal size in a row, cut apart and joined.
use Rattle.std.proofs.Common.{◌≡◌, ℕ, zero, suc, ◌+◌, ◌*◌, ◌/◌, ◌<◌, List, [], ◌∷◌, ◌++◌, map, length, take, drop, ℤ, pos, negsuc, refl, ap, ◌∙◌, mul-zero, mul-suc, arith, lit<, w32, SFits}
use Rattle.std.specs.List.{flat_map, AllByRecursion}
use Rattle.std.specs.Simd.{first_chunks}
use Rattle.std.proofs.lemmas.Nat.{div-mul-add}
use Rattle.std.proofs.lemmas.List.{take_at, drop_at, length-drop, length-map, take-append-drop}
use Rattle.std.proofs.lemmas.Int.{ints}
use Rattle.node.specs.Xdr.{xdr_int, xdr_opaque, int_of}
use Rattle.node.specs.Strings.{xdr_ints, xdr_opaques}
use Rattle.node.specs.Sizes.{IsDigest}
use Rattle.node.proofs.Integers.{int_back, int_bytes_back}
use Rattle.node.proofs.Encodings.{xdr_ints_length, xdr_opaques_length}
use Rattle.node.proofs.ShortStrings.{each_digest}
use Rattle.reader.specs.Parts.{numbers_in, digests_in}
use Rattle.reader.specs.RoundTrips.{IsByte, IsInt}
use Rattle.reader.proofs.Indexed.{chunked_length}

-- joined and cut apart
pub chunked_joined : {X : Type 0} (f : X → List ℕ) (n : ℕ) (xs : List X) → AllByRecursion (λ x. length (f x) ≡ n) xs
    → first_chunks n (length xs) (flat_map f xs) ≡ map f xs
chunked_joined f n [] all = refl
chunked_joined f n (x ∷ xs) all =
    ap (λ t. t ∷ first_chunks n (length xs) (drop n (f x ++ flat_map f xs))) (take_at (f x) (flat_map f xs) n all.0)
    ∙ ap (λ t. f x ∷ first_chunks n (length xs) t) (drop_at (f x) (flat_map f xs) n all.0)
    ∙ ap (λ t. f x ∷ t) (chunked_joined f n xs all.1)

-- cut apart and joined
pub joined_chunked : (n k : ℕ) (bytes : List ℕ) → length bytes ≡ n * k → flat_map xdr_opaque (first_chunks n k bytes) ≡ bytes
joined_chunked n zero [] size = refl
joined_chunked n zero (b ∷ bytes) size = absurd (omega (arith, mul-zero n))
joined_chunked n (suc k) bytes size =
    ap (λ t. take n bytes ++ t) (joined_chunked n k (drop n bytes) (omega (arith, length-drop n bytes, mul-suc n k)))
    ∙ take-append-drop n bytes

-- the count of items
pub count_of : (n k : ℕ) → 0 < n → n * k / n ≡ k
count_of n k some =
    let turned : n * k ≡ k * n + 0 = omega arith in
    ap (λ t. t / n) turned ∙ div-mul-add k n 0 some

each_four : (zs : List ℤ) → AllByRecursion (λ z. length (xdr_int z) ≡ 4) zs
each_four [] = tt
each_four (z ∷ zs) = (refl, each_four zs)

fits_int : (z : ℤ) → IsInt z → SFits w32 z
fits_int (pos n) range = record { sfits = omega (arith, ints, range.1) }
fits_int (negsuc n) range = record { sfits = omega (arith, ints, range.0) }

ints_back : (zs : List ℤ) → AllByRecursion IsInt zs → map int_of (map xdr_int zs) ≡ zs
ints_back [] all = refl
ints_back (z ∷ zs) all =
    ap (λ t. t ∷ map int_of (map xdr_int zs)) (int_back z (fits_int z all.0)) ∙ ap (λ t. z ∷ t) (ints_back zs all.1)

pub numbers_back : (numbers : List ℤ) → AllByRecursion IsInt numbers → numbers_in (xdr_ints numbers) ≡ numbers
numbers_back numbers all =
    let count : length (xdr_ints numbers) / 4 ≡ length numbers =
    ap (λ t. t / 4) (xdr_ints_length numbers) ∙ count_of 4 (length numbers) (lit< tt) in
    ap (λ k. map int_of (first_chunks 4 k (xdr_ints numbers))) count
    ∙ ap (map int_of) (chunked_joined xdr_int 4 numbers (each_four numbers))
    ∙ ints_back numbers all

map_opaque : (runs : List (List ℕ)) → map xdr_opaque runs ≡ runs
map_opaque [] = refl
map_opaque (run ∷ runs) = ap (λ t. run ∷ t) (map_opaque runs)

pub digests_back : (digests : List (List ℕ)) → AllByRecursion IsDigest digests → digests_in (xdr_opaques digests) ≡ digests
digests_back digests all =
    let count : length (xdr_opaques digests) / 32 ≡ length digests =
    ap (λ t. t / 32) (xdr_opaques_length 32 digests (each_digest digests all)) ∙ count_of 32 (length digests) (lit< tt) in
    ap (λ k. first_chunks 32 k (xdr_opaques digests)) count
    ∙ chunked_joined xdr_opaque 32 digests all ∙ map_opaque digests

ints_joined : (k : ℕ) (bytes : List ℕ) → AllByRecursion IsByte bytes → length bytes ≡ 4 * k → xdr_ints (map int_of (first_chunks 4 k bytes)) ≡ bytes
ints_joined zero [] all size = refl
ints_joined zero (b ∷ bytes) all size = absurd (omega arith)
ints_joined (suc k) [] all size = absurd (omega arith)
ints_joined (suc k) (a ∷ []) all size = absurd (omega arith)
ints_joined (suc k) (a ∷ b ∷ []) all size = absurd (omega arith)
ints_joined (suc k) (a ∷ b ∷ c ∷ []) all size = absurd (omega arith)
ints_joined (suc k) (a ∷ b ∷ c ∷ d ∷ bytes) all size =
    ap (λ t. t ++ xdr_ints (map int_of (first_chunks 4 k bytes))) (int_bytes_back a b c d all.0 all.1.0 all.1.1.0 all.1.1.1.0)
    ∙ ap (λ t. a ∷ b ∷ c ∷ d ∷ t) (ints_joined k bytes all.1.1.1.1 (omega arith))

pub numbers_written : (k : ℕ) (bytes : List ℕ) → AllByRecursion IsByte bytes → length bytes ≡ 4 * k → xdr_ints (numbers_in bytes) ≡ bytes
numbers_written k bytes all size =
    ap (λ n. xdr_ints (map int_of (first_chunks 4 n bytes))) (ap (λ t. t / 4) size ∙ count_of 4 k (lit< tt)) ∙ ints_joined k bytes all size

pub digests_written : (k : ℕ) (bytes : List ℕ) → length bytes ≡ 32 * k → xdr_opaques (digests_in bytes) ≡ bytes
digests_written k bytes size =
    ap (λ n. xdr_opaques (first_chunks 32 n bytes)) (ap (λ t. t / 32) size ∙ count_of 32 k (lit< tt)) ∙ joined_chunked 32 k bytes size

-- how many numbers and digests a string of a shape has
pub numbers_count : (k : ℕ) (bytes : List ℕ) → length bytes ≡ 4 * k → length (numbers_in bytes) ≡ k
numbers_count k bytes size =
    length-map (first_chunks 4 (length bytes / 4) bytes) int_of ∙ chunked_length 4 (length bytes / 4) bytes
    ∙ ap (λ t. t / 4) size ∙ count_of 4 k (lit< tt)

pub digests_count : (k : ℕ) (bytes : List ℕ) → length bytes ≡ 32 * k → length (digests_in bytes) ≡ k
digests_count k bytes size =
    chunked_length 32 (length bytes / 32) bytes ∙ ap (λ t. t / 32) size ∙ count_of 32 k (lit< tt)
