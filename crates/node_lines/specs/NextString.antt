-- The string that begins at a place of some bytes, of whichever kind, or why there is none.
use Rattle.std.specs.Prelude.{ℕ, Some, None, Ok, Err, Option, Result}
use Rattle.node.specs.Kinds.{kind_numbered, shape_of}
use Rattle.node.specs.declared.kind.Kind.{Kind}
use Rattle.reader.specs.Reading.{Position, read_kind, read_string}
use Rattle.reader.specs.Views.{StringSeen}
use Rattle.reader.specs.declared.fault.ReaderFault.{ReaderFault}
use Rattle.node_lines.specs.declared.next_string.StringFault.{StringFault}
use Rattle.node_lines.specs.declared.next_string.StringFault.TheVariants.{CutShort, KindNotKnown}

abbrev pub or_cut_short : {X : Type 0} → Result X ReaderFault → Result X StringFault
or_cut_short (Ok x) = Ok x
or_cut_short (Err e) = Err CutShort

-- The string of a kind, if the kind is one of the seven.
abbrev pub of_kind : Position → ℕ → Option Kind → Result StringSeen StringFault
of_kind p number None = Err (KindNotKnown number)
of_kind p number (Some kind) = or_cut_short (read_string p (shape_of kind))

abbrev pub after_kind : Position → Result ℕ ReaderFault → Result StringSeen StringFault
after_kind p (Ok number) = of_kind p number (kind_numbered number)
after_kind p (Err e) = Err CutShort

abbrev pub next_string : Position → Result StringSeen StringFault
next_string p = after_kind p (read_kind p)

-- Where the one after it begins.
abbrev pub place_after : Position → Result StringSeen StringFault → ℕ
place_after p (Ok seen) = seen.ends
place_after p (Err e) = p.at
