-- The external data representation (XDR, RFC 4506) of what a node's string holds. Every item takes a multiple of
-- four bytes, and nothing stands between two items.
use Rattle.std.specs.Prelude.{ℕ, suc, ◌+◌, ◌-◌, ◌*◌, ◌/◌, ◌%◌, ◌^◌, cond, List, [], ◌∷◌, ℤ, pos, negsuc, nat_lt, slice_index}

-- An unsigned integer, 0 to 2^32 - 1: four bytes, the most significant first.
abbrev pub xdr_uint : ℕ → List ℕ
xdr_uint n = n / 2 ^ 24 % 256 ∷ n / 2 ^ 16 % 256 ∷ n / 2 ^ 8 % 256 ∷ n % 256 ∷ []

-- Two's complement: a negative number of 32 bits stands as what it lacks to 2^32 (negsuc n is -(n + 1)).
abbrev pub twos_complement : ℤ → ℕ
twos_complement (pos n) = n
twos_complement (negsuc n) = 2 ^ 32 - suc n

-- An integer, -2^31 to 2^31 - 1: in two's complement, four bytes, the most significant first.
abbrev pub xdr_int : ℤ → List ℕ
xdr_int z = xdr_uint (twos_complement z)

-- Fixed-length opaque data of n bytes, n a multiple of four: these bytes.
abbrev pub xdr_opaque : List ℕ → List ℕ
xdr_opaque bytes = bytes

-- The unsigned integer that four bytes represent.
abbrev pub uint_of : List ℕ → ℕ
uint_of bytes = slice_index bytes 0 * 2 ^ 24 + slice_index bytes 1 * 2 ^ 16 + slice_index bytes 2 * 2 ^ 8 + slice_index bytes 3

-- The number that 32 bits represent in two's complement.
abbrev pub signed_of : ℕ → ℤ
signed_of n = cond (nat_lt n (2 ^ 31)) (pos n) (negsuc (2 ^ 32 - suc n))

-- The integer that four bytes represent.
abbrev pub int_of : List ℕ → ℤ
int_of bytes = signed_of (uint_of bytes)
