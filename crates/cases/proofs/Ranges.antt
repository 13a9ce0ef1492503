-- The fields of records are numbers of 32 bits, and so are kinds.
use Rattle.std.proofs.Common.{◌≡◌, ℕ, ◌-◌, ◌^◌, ◌<◌, true, eqb, List, [], ◌∷◌, length, ℤ, pos, negsuc, ◌≤ℤ◌, get_or, Some, arith}
use borrow.Author.Differences.{ints}
use lib.Signed.{le_z}
use Rattle.std.specs.List.{AllByRecursion}
use Rattle.std.proofs.lemmas.Bool.{and_parts}
use Rattle.records.specs.Range.{within, is_coordinate, is_record_number, is_zone}
use Rattle.node.specs.declared.kind.Kind.{Kind}
use Rattle.node.specs.Kinds.{kinds, kind_numbered}
use Rattle.reader.specs.RoundTrips.{IsInt}
use Rattle.search.proofs.Growing.{eqb_same}
use Rattle.search.proofs.Places.{nth_bound}

within_int : (low high z : ℤ) → negsuc (2 ^ 31 - 1) ≤ℤ low → high ≤ℤ pos (2 ^ 31 - 1) → within low high z ≡ true → IsInt z
within_int low high z least greatest h =
    let parts = and_parts (le_z low z) (le_z z high) h in
    let from : le_z low z ≡ true = parts.0 in
    let to : le_z z high ≡ true = parts.1 in
    (omega (arith, ints), omega (arith, ints))

pub coordinate_int : (z : ℤ) → is_coordinate z ≡ true → IsInt z
coordinate_int z h = within_int (negsuc 499999) (pos 500000) z (record { le = tt }) (record { le = tt }) h

pub record_number_int : (z : ℤ) → is_record_number z ≡ true → IsInt z
record_number_int z h = within_int (pos 1) (pos 65535) z (record { le = tt }) (record { le = tt }) h

pub zone_int : (z : ℤ) → is_zone z ≡ true → IsInt z
zone_int z h = within_int (pos 0) (pos 65535) z (record { le = tt }) (record { le = tt }) h

-- the number of a kind
pub kind_small : (number : ℕ) (kind : Kind) → kind_numbered number ≡ Some kind → number < 2 ^ 32
kind_small number kind h = let small = nth_bound kinds number kind h in omega (arith, small)

-- numbers of which each is in range: none, one, two, three or four
abbrev number : List ℤ → ℕ → ℤ
number numbers place = get_or numbers place (pos 0)

pub none_int : (numbers : List ℤ) → eqb (length numbers) 0 ≡ true → AllByRecursion IsInt numbers
none_int [] h = tt
none_int (x ∷ xs) h = absurd (let e = eqb_same (length (x ∷ xs)) 0 h in omega (arith, e))

pub one_int : (numbers : List ℤ) → eqb (length numbers) 1 ≡ true → IsInt (number numbers 0) → AllByRecursion IsInt numbers
one_int [] h a = tt
one_int (x ∷ []) h a = (a, tt)
one_int (x ∷ y ∷ zs) h a = absurd (let e = eqb_same (length (x ∷ y ∷ zs)) 1 h in omega (arith, e))

pub two_int : (numbers : List ℤ) → eqb (length numbers) 2 ≡ true → IsInt (number numbers 0) → IsInt (number numbers 1) → AllByRecursion IsInt numbers
two_int [] h a b = tt
two_int (x ∷ []) h a b = (a, tt)
two_int (x ∷ y ∷ []) h a b = (a, (b, tt))
two_int (x ∷ y ∷ z ∷ zs) h a b = absurd (let e = eqb_same (length (x ∷ y ∷ z ∷ zs)) 2 h in omega (arith, e))

pub three_int : (numbers : List ℤ) → eqb (length numbers) 3 ≡ true → IsInt (number numbers 0) → IsInt (number numbers 1) → IsInt (number numbers 2) → AllByRecursion IsInt numbers
three_int [] h a b c = tt
three_int (x ∷ []) h a b c = (a, tt)
three_int (x ∷ y ∷ []) h a b c = (a, (b, tt))
three_int (x ∷ y ∷ z ∷ []) h a b c = (a, (b, (c, tt)))
three_int (x ∷ y ∷ z ∷ w ∷ ws) h a b c = absurd (let e = eqb_same (length (x ∷ y ∷ z ∷ w ∷ ws)) 3 h in omega (arith, e))

pub four_int : (numbers : List ℤ) → eqb (length numbers) 4 ≡ true → IsInt (number numbers 0) → IsInt (number numbers 1) → IsInt (number numbers 2) → IsInt (number numbers 3) → AllByRecursion IsInt numbers
four_int [] h a b c d = tt
four_int (x ∷ []) h a b c d = (a, tt)
four_int (x ∷ y ∷ []) h a b c d = (a, (b, tt))
four_int (x ∷ y ∷ z ∷ []) h a b c d = (a, (b, (c, tt)))
four_int (x ∷ y ∷ z ∷ w ∷ []) h a b c d = (a, (b, (c, (d, tt))))
four_int (x ∷ y ∷ z ∷ w ∷ v ∷ vs) h a b c d = absurd (let e = eqb_same (length (x ∷ y ∷ z ∷ w ∷ v ∷ vs)) 4 h in omega (arith, e))
