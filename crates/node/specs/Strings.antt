-- A node's string, and its digest.
use Rattle.std.specs.Prelude.{ℕ, List, ◌++◌, ℤ}
use Rattle.std.specs.List.{flat_map}
use Rattle.node.specs.Xdr.{xdr_uint, xdr_int, xdr_opaque}

-- Several integers, or several runs of opaque data, in a row.
abbrev pub xdr_ints : List ℤ → List ℕ
xdr_ints numbers = flat_map xdr_int numbers

abbrev pub xdr_opaques : List (List ℕ) → List ℕ
xdr_opaques runs = flat_map xdr_opaque runs

-- The string of a node: its kind as an unsigned integer, its numbers as integers, the digests of its successors as
-- opaque data of 32 bytes each.
abbrev pub string_of : ℕ → List ℤ → List (List ℕ) → List ℕ
string_of kind numbers digests = xdr_uint kind ++ (xdr_ints numbers ++ xdr_opaques digests)

-- The digest of a node is the hash of its string.
abbrev pub node_digest : (List ℕ → List ℕ) → ℕ → List ℤ → List (List ℕ) → List ℕ
node_digest hash kind numbers digests = hash (string_of kind numbers digests)
