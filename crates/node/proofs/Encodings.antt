-- The sizes of encodings, and integers in two's complement as the machine has them.
use Rattle.std.proofs.Common.{◌≡◌, ℕ, suc, ◌+◌, ◌*◌, ◌<◌, List, [], ◌∷◌, ◌++◌, length, get_or, ℤ, pos, negsuc, refl, ap, ◌∙◌, arith, length-append, w32, SFits, to_z, of_z}
use Rattle.std.specs.List.{AllByRecursion}
use Rattle.std.proofs.lemmas.Int.{to_z-of_z}
use Rattle.node.specs.Xdr.{xdr_uint, xdr_int, xdr_opaque}
use Rattle.node.specs.Strings.{xdr_ints, xdr_opaques, string_of}
use Rattle.node.proofs.Joining.{joined_length}

pub xdr_int_bits : (z : ℤ) → xdr_uint (of_z w32 z) ≡ xdr_int z
xdr_int_bits (pos n) = refl
xdr_int_bits (negsuc n) = refl

-- of an integer that was passed as its bits
pub xdr_int_passed : (z : ℤ) → SFits w32 z → xdr_uint (of_z w32 (to_z w32 (of_z w32 z))) ≡ xdr_int z
xdr_int_passed z fits = ap (λ t. xdr_uint (of_z w32 t)) (to_z-of_z w32 z fits) ∙ xdr_int_bits z

each_four : (zs : List ℤ) → AllByRecursion (λ z. length (xdr_int z) ≡ 4) zs
each_four [] = tt
each_four (z ∷ zs) = (refl, each_four zs)

pub xdr_ints_length : (zs : List ℤ) → length (xdr_ints zs) ≡ 4 * length zs
xdr_ints_length zs = joined_length xdr_int 4 zs (each_four zs)

-- every run has n bytes
abbrev pub EachOf : ℕ → List (List ℕ) → Type 0
EachOf n runs = (i : ℕ) → i < length runs → length (get_or runs i []) ≡ n

each_of : (n : ℕ) (runs : List (List ℕ)) → EachOf n runs → AllByRecursion (λ run. length (xdr_opaque run) ≡ n) runs
each_of n [] each = tt
each_of n (run ∷ runs) each = (each 0 (omega arith), each_of n runs (λ i within. each (suc i) (omega arith)))

pub xdr_opaques_length : (n : ℕ) (runs : List (List ℕ)) → EachOf n runs → length (xdr_opaques runs) ≡ n * length runs
xdr_opaques_length n runs each = joined_length xdr_opaque n runs (each_of n runs each)

pub string_length_lem : (kind : ℕ) (numbers : List ℤ) (digests : List (List ℕ)) → EachOf 32 digests
    → length (string_of kind numbers digests) ≡ 4 + 4 * length numbers + 32 * length digests
string_length_lem kind numbers digests each =
    length-append (xdr_uint kind) (xdr_ints numbers ++ xdr_opaques digests)
    ∙ omega (arith, length-append (xdr_ints numbers) (xdr_opaques digests), xdr_ints_length numbers, xdr_opaques_length 32 digests each)
