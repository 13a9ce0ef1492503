-- The lines that show the strings in some bytes.
use Rattle.std.specs.Prelude.{◌≡◌, ℕ, zero, suc, ◌≤◌, cond, List, [], ◌∷◌, ◌++◌, length, Ok, Err, codes, decimal, Result, nat_le, nat_lt}
use Rattle.hex_text.specs.Hex.{hex_of}
use Rattle.reader.specs.Parts.{digests_in, numbers_in}
use Rattle.reader.specs.Reading.{Position, bytes_left, longest_proof}
use Rattle.reader.specs.Views.{StringSeen}
use Rattle.refusal.specs.declared.Refusal.TheVariants.{ProofTooLong}
use Rattle.script.specs.Lines.{ended, field, line_of_refusal}
use Rattle.node_lines.specs.NextString.{next_string}
use Rattle.node_lines.specs.Shown.{after_text}
use Rattle.node_lines.specs.declared.next_string.StringFault.{StringFault}
use Rattle.node_lines.specs.declared.next_string.StringFault.TheVariants.{CutShort, KindNotKnown}

abbrev pub at_place : ℕ → List ℕ
at_place place = codes "at " ++ decimal place

abbrev pub of_kind_number : ℕ → List ℕ
of_kind_number kind = codes ": kind " ++ decimal kind

abbrev pub numbers_shown : List ℕ → List ℕ
numbers_shown bytes = after_text (codes ", numbers") field (numbers_in bytes)

-- A digest in hex, after a space.
abbrev pub hex_field : List ℕ → List ℕ
hex_field bytes = 32 ∷ hex_of bytes

abbrev pub digests_shown : List ℕ → List ℕ
digests_shown bytes = after_text (codes ", digests") hex_field (digests_in bytes)

abbrev pub line_of_parts : ℕ → ℕ → List ℕ → List ℕ → List ℕ
line_of_parts place kind numbers successors =
    (at_place place ++ of_kind_number kind) ++ (numbers_shown numbers ++ digests_shown successors)

abbrev pub line_of_string : StringSeen → List ℕ
line_of_string seen = line_of_parts seen.begins seen.kind seen.numbers seen.successors

abbrev pub words_of_fault : StringFault → List ℕ
words_of_fault CutShort = codes ": the bytes end inside a string"
words_of_fault (KindNotKnown kind) = of_kind_number kind ++ codes " is not known"

abbrev pub line_of_fault : ℕ → StringFault → List ℕ
line_of_fault place fault = at_place place ++ words_of_fault fault

-- The line of a string and those of the strings after it; the first that cannot be read is the last.
abbrev pub line_and_later : ℕ → Result StringSeen StringFault → (ℕ → List ℕ) → List ℕ
line_and_later place (Ok seen) later = ended (line_of_string seen) ++ later seen.ends
line_and_later place (Err fault) later = ended (line_of_fault place fault)

-- The lines of at most so many strings, from a place on.
abbrev pub string_lines : ℕ → Position → List ℕ
string_lines zero p = []
string_lines (suc most) p =
    cond (nat_lt 0 (bytes_left p))
    (line_and_later p.at (next_string p) (λ place. string_lines most (record { bytes = p.bytes; at = place })))
    []

-- The lines of all strings: each has bytes, so there are no more strings than bytes.
abbrev pub all_string_lines : Position → List ℕ
all_string_lines p = string_lines (bytes_left p) p

abbrev pub AllStringsHaveLines : Type 0
AllStringsHaveLines = (most : ℕ) (p : Position) → bytes_left p ≤ most → string_lines most p ≡ all_string_lines p

-- What is printed of some bytes, unless they are too many.
abbrev pub printed_strings : List ℕ → List ℕ
printed_strings bytes =
    cond (nat_le (length bytes) longest_proof)
    (all_string_lines (record { bytes = bytes; at = 0 }))
    (ended (line_of_refusal ProofTooLong))
