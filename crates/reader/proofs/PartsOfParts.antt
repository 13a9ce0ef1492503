-- Parts of lists of bytes: their sizes, parts in a row, parts of parts.
use Rattle.std.proofs.Common.{◌≡◌, ℕ, ◌+◌, ◌-◌, ◌*◌, ◌≤◌, List, ◌++◌, length, take, drop, sym, refl, ap, ◌∙◌, arith, take-add}
use Rattle.std.specs.List.{AllByRecursion}
use Rattle.std.proofs.ByRecursion.{All-take, All-drop}
use Rattle.std.proofs.lemmas.List.{drop-drop, take-take, length-take-le, length-drop, take_at, drop_at}
use Rattle.std.proofs.lemmas.Slice.{between_is}
use Rattle.node.specs.Kinds.{string_length}
use Rattle.node.specs.declared.shape.Shape.{Shape}
use Rattle.reader.specs.Parts.{part}
use Rattle.reader.specs.Reading.{Position, string_here}
use Rattle.reader.specs.RoundTrips.{IsByte}
use Rattle.reader.specs.Views.{StringSeen}

pub part_length : (bytes : List ℕ) (at n : ℕ) → at + n ≤ length bytes → length (part bytes at n) ≡ n
part_length bytes at n within = length-take-le n (drop at bytes) (omega (arith, length-drop at bytes))

pub part_bytes : (bytes : List ℕ) (at n : ℕ) → AllByRecursion IsByte bytes → AllByRecursion IsByte (part bytes at n)
part_bytes bytes at n all = All-take IsByte n (drop at bytes) (All-drop IsByte at bytes all)

-- two parts in a row
pub part_join : (bytes : List ℕ) (at m n : ℕ) → part bytes at m ++ part bytes (at + m) n ≡ part bytes at (m + n)
part_join bytes at m n =
    ap (λ t. part bytes at m ++ take n t) (sym (drop-drop m at bytes)) ∙ sym (take-add m n (drop at bytes))

pub part_of_part : (bytes : List ℕ) (at n i k : ℕ) → i + k ≤ n → part (part bytes at n) i k ≡ part bytes (at + i) k
part_of_part bytes at n i k within =
    ap (take k) (sym (between_is (drop at bytes) i n))
    ∙ take-take k (n - i) (drop i (drop at bytes)) (omega arith)
    ∙ ap (take k) (drop-drop i at bytes)

-- what follows in a part
part_rest : (bytes : List ℕ) (at n i k : ℕ) → i + k ≡ n → drop i (part bytes at n) ≡ part bytes (at + i) k
part_rest bytes at n i k whole =
    let left : n - i ≡ k = omega (arith, whole) in
    sym (between_is (drop at bytes) i n) ∙ ap (λ m. take m (drop i (drop at bytes))) left ∙ ap (take k) (drop-drop i at bytes)

-- a string cut off the bytes from its place on, and into its kind, its numbers and its successors
pub string_cut : (p : Position) (shape : Shape) (kind : ℕ) (rest string parts numbers successors : List ℕ) (size : ℕ)
    → size ≡ string_length shape → rest ≡ drop p.at p.bytes → string ≡ take size rest → parts ≡ drop 4 string
    → numbers ≡ take (4 * shape.numbers) parts → successors ≡ drop (4 * shape.numbers) parts
    → ◌≡◌ {A = StringSeen} (record { kind = kind; string = string; numbers = numbers; successors = successors; begins = p.at; ends = p.at + size }) (string_here p shape kind)
string_cut p shape kind rest string parts numbers successors size long from whole after front back =
    let n : ℕ = 4 * shape.numbers in
    let cut : string ≡ part p.bytes p.at size = whole ∙ ap (take size) from in
    let behind : parts ≡ drop 4 (part p.bytes p.at size) = after ∙ ap (drop 4) cut in
    let first : numbers ≡ part p.bytes (p.at + 4) n =
    front ∙ ap (take n) behind ∙ part_of_part p.bytes p.at size 4 n (omega (arith, long)) in
    let place : p.at + (4 + n) ≡ p.at + 4 + n = omega arith in
    let second : successors ≡ part p.bytes (p.at + 4 + n) (32 * shape.successors) =
    back ∙ ap (drop n) behind ∙ drop-drop n 4 (part p.bytes p.at size)
    ∙ part_rest p.bytes p.at size (4 + n) (32 * shape.successors) (omega (arith, long))
    ∙ ap (λ at. part p.bytes at (32 * shape.successors)) place in
    let string_is : string ≡ part p.bytes p.at (string_length shape) = cut ∙ ap (part p.bytes p.at) long in
    λ i. record { kind = kind; string = string_is i; numbers = first i; successors = second i; begins = p.at; ends = p.at + long i }

-- a part behind a front
pub part_behind : (front bytes : List ℕ) (at n : ℕ) → part (front ++ bytes) (length front + at) n ≡ part bytes at n
part_behind front bytes at n =
    ap (take n) (sym (drop-drop at (length front) (front ++ bytes)) ∙ ap (drop at) (drop_at front bytes (length front) refl))

-- the part that a run in the middle is
pub part_mid : (front mid back : List ℕ) (at n : ℕ) → length front ≡ at → length mid ≡ n → part (front ++ (mid ++ back)) at n ≡ mid
part_mid front mid back at n f m = ap (take n) (drop_at front (mid ++ back) at f) ∙ take_at mid back n m
