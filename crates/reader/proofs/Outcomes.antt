-- A string read: what the reader's tests say of it.
use Rattle.std.proofs.Common.{◌≡◌, ℕ, ◌+◌, ◌-◌, ◌*◌, ◌≤◌, cond, ltb, length, drop, Ok, Err, Result, sym, ap, ◌∙◌, ⊎_elim, arith}
use Rattle.std.proofs.lemmas.List.{length-take-le, length-drop}
use Rattle.std.proofs.lemmas.Bool.{cond-true, cond-false, le-ltb, lt-ltb, cases_lt}
use Rattle.node.specs.Kinds.{string_length}
use Rattle.node.specs.Xdr.{uint_of}
use Rattle.node.specs.declared.shape.Shape.{Shape}
use Rattle.reader.specs.declared.fault.ReaderFault.{ReaderFault}
use Rattle.reader.specs.declared.fault.ReaderFault.TheVariants.{KindCutShort, RestCutShort}
use Rattle.reader.specs.Parts.{part}
use Rattle.reader.specs.Reading.{Position, bytes_left, onward, read_kind, read_string, string_here}
use Rattle.reader.specs.Views.{StringSeen}

pub kind_read : (p : Position) → 4 ≤ bytes_left p → read_kind p ≡ Ok (uint_of (part p.bytes p.at 4))
kind_read p enough =
    cond-false (ltb (bytes_left p) 4) (Err (KindCutShort p.at)) (Ok (uint_of (part p.bytes p.at 4))) (le-ltb (bytes_left p) 4 enough)

-- what follows a kind that was read
abbrev rest_of : Position → Shape → ℕ → Result StringSeen ReaderFault
rest_of p shape kind = cond (ltb (bytes_left p) (string_length shape)) (Err (RestCutShort p.at)) (Ok (string_here p shape kind))

-- the string after a kind that was read
pub string_read_after : (p : Position) (shape : Shape) (kind : ℕ) → Ok kind ≡ read_kind p → string_length shape ≤ bytes_left p
    → read_string p shape ≡ Ok (string_here p shape kind)
string_read_after p shape kind read enough =
    ap (λ t. onward t (rest_of p shape)) (sym read)
    ∙ cond-false (ltb (bytes_left p) (string_length shape)) (Err (RestCutShort p.at)) (Ok (string_here p shape kind)) (le-ltb (bytes_left p) (string_length shape) enough)

pub string_read : (p : Position) (shape : Shape) → string_length shape ≤ bytes_left p
    → read_string p shape ≡ Ok (string_here p shape (uint_of (part p.bytes p.at 4)))
string_read p shape enough =
    string_read_after p shape (uint_of (part p.bytes p.at 4)) (sym (kind_read p (omega arith))) enough

no_string : {X : Type 0} (e : ReaderFault) (x : X) → Err e ≡ Ok x → ⊥
no_string e x q = let z : ◌≡◌ {A = ℕ} 0 1 = cc in omega arith

-- a string that was read is the one that stands there, with all its bytes
pub record Stands (p : Position) (shape : Shape) (seen : StringSeen) : Type 0 where
  pub enough : string_length shape ≤ bytes_left p
  pub same : seen ≡ string_here p shape (uint_of (part p.bytes p.at 4))

same_ok : {X E : Type 0} (x y : X) → ◌≡◌ {A = Result X E} (Ok x) (Ok y) → x ≡ y
same_ok x y q = cc

pub stands : (p : Position) (shape : Shape) (seen : StringSeen) → read_string p shape ≡ Ok seen → Stands p shape seen
stands p shape seen read =
    ⊎_elim
    (λ short. absurd (⊎_elim
    (λ none. no_string (KindCutShort p.at) seen (sym (ap (λ t. onward t (rest_of p shape)) (cond-true (ltb (bytes_left p) 4) (Err (KindCutShort p.at)) (Ok (uint_of (part p.bytes p.at 4))) (lt-ltb (bytes_left p) 4 none))) ∙ read))
    (λ four. no_string (RestCutShort p.at) seen (sym (ap (λ t. onward t (rest_of p shape)) (kind_read p four) ∙ cond-true (ltb (bytes_left p) (string_length shape)) (Err (RestCutShort p.at)) (Ok (string_here p shape (uint_of (part p.bytes p.at 4)))) (lt-ltb (bytes_left p) (string_length shape) short)) ∙ read))
    (cases_lt (bytes_left p) 4)))
    (λ enough. record { enough = enough; same = same_ok {E = ReaderFault} seen (string_here p shape (uint_of (part p.bytes p.at 4))) (sym read ∙ string_read p shape enough) })
    (cases_lt (bytes_left p) (string_length shape))

-- its whole length, and its place
pub read_length : (p : Position) (shape : Shape) (seen : StringSeen) → read_string p shape ≡ Ok seen → length seen.string ≡ string_length shape
read_length p shape seen read =
    let there = stands p shape seen read in
    ap (λ (s : StringSeen). length s.string) there.same
    ∙ length-take-le (string_length shape) (drop p.at p.bytes) (omega (arith, there.enough, length-drop p.at p.bytes))

pub read_ends : (p : Position) (shape : Shape) (seen : StringSeen) → read_string p shape ≡ Ok seen
    → (seen.ends ≡ p.at + string_length shape) × (seen.ends ≤ length p.bytes)
read_ends p shape seen read =
    let there = stands p shape seen read in
    let ends : seen.ends ≡ p.at + string_length shape = ap (λ (s : StringSeen). s.ends) there.same in
    (ends, omega (arith, ends, there.enough))

pub read_numbers : (p : Position) (shape : Shape) (seen : StringSeen) → read_string p shape ≡ Ok seen → length seen.numbers ≡ 4 * shape.numbers
read_numbers p shape seen read =
    let there = stands p shape seen read in
    ap (λ (s : StringSeen). length s.numbers) there.same
    ∙ length-take-le (4 * shape.numbers) (drop (p.at + 4) p.bytes) (omega (arith, there.enough, length-drop (p.at + 4) p.bytes))

pub read_successors : (p : Position) (shape : Shape) (seen : StringSeen) → read_string p shape ≡ Ok seen → length seen.successors ≡ 32 * shape.successors
read_successors p shape seen read =
    let there = stands p shape seen read in
    ap (λ (s : StringSeen). length s.successors) there.same
    ∙ length-take-le (32 * shape.successors) (drop (p.at + 4 + 4 * shape.numbers) p.bytes) (omega (arith, there.enough, length-drop (p.at + 4 + 4 * shape.numbers) p.bytes))

-- after it fewer bytes are left: at least four
pub read_shortens : (p : Position) (shape : Shape) (seen : StringSeen) → read_string p shape ≡ Ok seen
    → length p.bytes - seen.ends + 4 ≤ bytes_left p
read_shortens p shape seen read =
    let there = stands p shape seen read in
    omega (arith, there.enough, (read_ends p shape seen read).0)
