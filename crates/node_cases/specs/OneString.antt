-- Bytes read as one string and nothing else, as a check reads its first string.
use Rattle.std.specs.Prelude.{ℕ, List, Some, None, Ok, Err, Option, Result}
use Rattle.node.specs.Kinds.{kind_numbered, shape_of}
use Rattle.node.specs.declared.kind.Kind.{Kind}
use Rattle.reader.specs.Reading.{opened, read_kind, read_string, finished}
use Rattle.reader.specs.Views.{StringSeen}
use Rattle.fault.specs.Carrying.{carried, from_reader, from_reader_at_step, from_search_at_string, stamped_step, stamped_string}
use Rattle.fault.specs.declared.layers.SearchFault.{SearchFault}
use Rattle.fault.specs.declared.layers.SearchFault.TheVariants.{KindNotKnown}
use Rattle.fault.specs.declared.report.Fault.{Fault}

abbrev pub known : ℕ → Option Kind → Result Kind SearchFault
known number (Some kind) = Ok kind
known number None = Err (KindNotKnown number)

abbrev pub known_kind : ℕ → Result Kind SearchFault
known_kind number = known number (kind_numbered number)

abbrev pub one_string : List ℕ → Result StringSeen Fault
one_string bytes =
    carried from_reader (opened bytes) (λ p.
    carried from_reader_at_step (stamped_step 1 (read_kind p)) (λ number.
    carried from_search_at_string (stamped_string 1 p.at (known_kind number)) (λ kind.
    carried from_reader_at_step (stamped_step 1 (read_string p (shape_of kind))) (λ seen.
    carried from_reader_at_step (stamped_step 1 (finished (record { bytes = p.bytes; at = seen.ends }))) (λ _.
    Ok seen)))))
