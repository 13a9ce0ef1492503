-- The strings of a proof, read from its bytes one after another.
use Rattle.std.specs.Prelude.{ℕ, ◌+◌, ◌-◌, ◌*◌, cond, List, length, Ok, Err, Result, nat_le, nat_lt}
use Rattle.node.specs.Kinds.{string_length}
use Rattle.node.specs.Xdr.{uint_of}
use Rattle.node.specs.declared.shape.Shape.{Shape}
use Rattle.reader.specs.declared.fault.ReaderFault.{ReaderFault}
use Rattle.reader.specs.declared.fault.ReaderFault.TheVariants.{ProofTooLong, KindCutShort, RestCutShort, BytesLeftOver}
use Rattle.reader.specs.declared.reader.Reader.{Reader}
use Rattle.reader.specs.Parts.{part}
use Rattle.reader.specs.Views.{StringSeen}

-- The longest proof, in bytes.
abbrev pub longest_proof : ℕ
longest_proof = 65535

-- What a reader has: the proof's bytes, and the place where the next string begins.
pub record Position : Type 0 where
  pub bytes : List ℕ
  pub at : ℕ

abbrev pub position_of : Reader → Position
position_of reader = record { bytes = reader.bytes.now; at = reader.at }

-- How many bytes are left from there on.
abbrev pub bytes_left : Position → ℕ
bytes_left p = length p.bytes - p.at

-- A result, its answer seen in another way.
abbrev pub map_ok : {X Y E : Type 0} → (X → Y) → Result X E → Result Y E
map_ok f (Ok x) = Ok (f x)
map_ok f (Err e) = Err e

-- A result used further, unless it is a fault.
abbrev pub onward : {X Y E : Type 0} → Result X E → (X → Result Y E) → Result Y E
onward (Ok x) f = f x
onward (Err e) f = Err e

-- A reader begins at byte 0. A proof that is too long is refused.
abbrev pub opened : List ℕ → Result Position ReaderFault
opened bytes = cond (nat_le (length bytes) longest_proof) (Ok (record { bytes = bytes; at = 0 })) (Err ProofTooLong)

-- The kind of the string that begins here, unless the bytes end inside it.
abbrev pub read_kind : Position → Result ℕ ReaderFault
read_kind p =
    cond (nat_lt (bytes_left p) 4)
    (Err (KindCutShort p.at))
    (Ok (uint_of (part p.bytes p.at 4)))

-- A string of a shape that stands here.
abbrev pub string_here : Position → Shape → ℕ → StringSeen
string_here p shape kind = record {
  kind = kind;
  string = part p.bytes p.at (string_length shape);
  numbers = part p.bytes (p.at + 4) (4 * shape.numbers);
  successors = part p.bytes (p.at + 4 + 4 * shape.numbers) (32 * shape.successors);
  begins = p.at;
  ends = p.at + string_length shape;
}

-- The string of a shape that begins here, unless the bytes end inside its kind or inside the rest of it.
abbrev pub read_string : Position → Shape → Result StringSeen ReaderFault
read_string p shape =
    onward (read_kind p) (λ kind.
    cond (nat_lt (bytes_left p) (string_length shape))
    (Err (RestCutShort p.at))
    (Ok (string_here p shape kind)))

-- Where the next string begins: after the string that was read, or where it was.
abbrev pub place_after : Position → Result StringSeen ReaderFault → ℕ
place_after p (Ok seen) = seen.ends
place_after p (Err e) = p.at

-- At the end no bytes are left over.
abbrev pub finished : Position → Result (Unit {0}) ReaderFault
finished p = cond (nat_lt 0 (bytes_left p)) (Err (BytesLeftOver p.at)) (Ok tt)
