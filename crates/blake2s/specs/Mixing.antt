-- RFC 7693, section 3: what a block does to the state.
use Rattle.std.specs.Prelude.{ℕ, zero, suc, ◌+◌, ◌*◌, ◌/◌, ◌%◌, ◌^◌, Bool, cond, List, [], ◌∷◌, set, bit_xor, slice_index, slice_index_or, slice_set}
use Rattle.std.specs.Int.{w32, rotate_right}
use Rattle.blake2s.specs.Constants.{IV, SIGMA}

-- Section 2.3: the sum modulo 2^32.
abbrev pub plus : ℕ → ℕ → ℕ
plus x y = (x + y) % 2 ^ 32

-- Section 3.1: the mixing function G. Each half adds a word of the message and rotates the words d and b; the rotations
-- are those of section 2.1.
unfoldable pub half : ℕ → ℕ → List ℕ → ℕ → ℕ → ℕ → ℕ → ℕ → List ℕ
half r1 r2 v a b c d x =
    let v1 = set v a (plus (plus (slice_index v a) (slice_index v b)) x) in
    let v2 = set v1 d (rotate_right w32 (bit_xor (slice_index v1 d) (slice_index v1 a)) r1) in
    let v3 = set v2 c (plus (slice_index v2 c) (slice_index v2 d)) in
    slice_set v3 b (rotate_right w32 (bit_xor (slice_index v3 b) (slice_index v3 c)) r2)

unfoldable pub G : List ℕ → ℕ → ℕ → ℕ → ℕ → ℕ → ℕ → List ℕ
G v a b c d x y = half 8 7 (half 16 12 v a b c d x) a b c d y

-- Section 2.4: the word i of a block of 64 bytes, least significant byte first.
abbrev pub word_of : List ℕ → ℕ → ℕ
word_of block i =
    slice_index block (4 * i) + slice_index block (4 * i + 1) * 2 ^ 8 + slice_index block (4 * i + 2) * 2 ^ 16 +
    slice_index block (4 * i + 3) * 2 ^ 24

-- Section 3.2: the rounds of the compression function F. Round i takes the words of the block in the order SIGMA[i].
unfoldable pub chosen : List ℕ → ℕ → ℕ → ℕ
chosen block i j = word_of block (slice_index (slice_index_or SIGMA i []) j)

unfoldable pub columns : List ℕ → ℕ → List ℕ → List ℕ
columns block i v =
    let v1 = G v 0 4 8 12 (chosen block i 0) (chosen block i 1) in
    let v2 = G v1 1 5 9 13 (chosen block i 2) (chosen block i 3) in
    let v3 = G v2 2 6 10 14 (chosen block i 4) (chosen block i 5) in
    G v3 3 7 11 15 (chosen block i 6) (chosen block i 7)

unfoldable pub diagonals : List ℕ → ℕ → List ℕ → List ℕ
diagonals block i v =
    let v1 = G v 0 5 10 15 (chosen block i 8) (chosen block i 9) in
    let v2 = G v1 1 6 11 12 (chosen block i 10) (chosen block i 11) in
    let v3 = G v2 2 7 8 13 (chosen block i 12) (chosen block i 13) in
    G v3 3 4 9 14 (chosen block i 14) (chosen block i 15)

-- The working vector after the first i rounds.
unfoldable pub rounds : List ℕ → List ℕ → ℕ → List ℕ
rounds block v zero = v
rounds block v (suc i) = diagonals block i (columns block i (rounds block v i))

-- The working vector at first: the state, then IV with the byte count t xored into its words 4 and 5, low word first, and
-- word 6 inverted at the last block.
unfoldable pub started : List ℕ → ℕ → Bool → List ℕ
started h t last =
    slice_index h 0 ∷ slice_index h 1 ∷ slice_index h 2 ∷ slice_index h 3 ∷ slice_index h 4 ∷ slice_index h 5 ∷ slice_index h 6 ∷ slice_index h 7 ∷ slice_index IV 0 ∷
    slice_index IV 1 ∷ slice_index IV 2 ∷ slice_index IV 3 ∷ bit_xor (slice_index IV 4) (t % 2 ^ 32) ∷ bit_xor (slice_index IV 5) (t / 2 ^ 32) ∷
    cond last (bit_xor (slice_index IV 6) 0xffff_ffff) (slice_index IV 6) ∷ slice_index IV 7 ∷ []

-- The state at the end: both halves of the working vector xored into it.
unfoldable pub folded : List ℕ → List ℕ → List ℕ
folded h v =
    bit_xor (bit_xor (slice_index h 0) (slice_index v 0)) (slice_index v 8) ∷
    bit_xor (bit_xor (slice_index h 1) (slice_index v 1)) (slice_index v 9) ∷
    bit_xor (bit_xor (slice_index h 2) (slice_index v 2)) (slice_index v 10) ∷
    bit_xor (bit_xor (slice_index h 3) (slice_index v 3)) (slice_index v 11) ∷
    bit_xor (bit_xor (slice_index h 4) (slice_index v 4)) (slice_index v 12) ∷
    bit_xor (bit_xor (slice_index h 5) (slice_index v 5)) (slice_index v 13) ∷
    bit_xor (bit_xor (slice_index h 6) (slice_index v 6)) (slice_index v 14) ∷
    bit_xor (bit_xor (slice_index h 7) (slice_index v 7)) (slice_index v 15) ∷ []

unfoldable pub F : List ℕ → List ℕ → ℕ → Bool → List ℕ
F h block t last = folded h (rounds block (started h t last) 10)
