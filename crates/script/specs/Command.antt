-- The table of commands: which words make up each, and what it says.
use Rattle.std.specs.Prelude.{ℕ, cond, List, [], ◌∷◌, length, Some, None, codes, Option, nat_lt}
use Rattle.std.specs.Option.{option_map}
use Rattle.std.specs.Str.{bytes_eq}
use Rattle.records.specs.declared.raw.EdgeRecord.{EdgeRecord}
use Rattle.records.specs.declared.raw.SiteRecord.{SiteRecord}
use Rattle.records.specs.declared.raw.Point.{Point}
use Rattle.records.specs.declared.raw.Rectangle.{Rectangle}
use Rattle.script.specs.declared.command.ChartKind.{ChartKind}
use Rattle.script.specs.declared.command.ChartKind.TheVariants.{Zone, Site}
use Rattle.script.specs.declared.command.HashName.{HashName}
use Rattle.script.specs.declared.command.HashName.TheVariants.{Sha256, Blake2s}
use Rattle.script.specs.declared.command.Command.{Command}
use Rattle.script.specs.declared.command.Command.TheVariants.{Begin, AddEdge, AddSite, Remove, AnswerZone, AnswerSites, List as Records, Blank}
use Rattle.script.specs.Number.{and_then}
use Rattle.script.specs.Words.{words_of}
use Rattle.script.specs.Fields.{at_end, first_point, first_rectangle, with_number}

abbrev pub kind_named : List ℕ → Option ChartKind
kind_named word =
    cond (bytes_eq word (codes "zone")) (Some Zone)
    (cond (bytes_eq word (codes "site")) (Some Site) None)

abbrev pub hash_named : List ℕ → Option HashName
hash_named word =
    cond (bytes_eq word (codes "sha256")) (Some Sha256)
    (cond (bytes_eq word (codes "blake2s")) (Some Blake2s) None)

-- The hash is SHA-256 where none is named.
abbrev pub hash_of : List (List ℕ) → Option HashName
hash_of [] = Some Sha256
hash_of (word ∷ rest) = and_then (hash_named word) (at_end rest)

-- begin KIND, begin KIND HASH
abbrev pub read_begin : List (List ℕ) → Option Command
read_begin [] = None
read_begin (word ∷ rest) = and_then (kind_named word) (λ kind. option_map (λ hash. Begin kind hash) (hash_of rest))

-- N X1 Y1 X2 Y2 ZONE
abbrev pub read_edge : List (List ℕ) → Option EdgeRecord
read_edge words =
    with_number words (λ n after-n.
    with_number after-n (λ x1 after-x1.
    with_number after-x1 (λ y1 after-y1.
    with_number after-y1 (λ x2 after-x2.
    with_number after-x2 (λ y2 after-y2.
    with_number after-y2 (λ zone rest.
    at_end rest (record { number = n; x1 = x1; y1 = y1; x2 = x2; y2 = y2; zone = zone })))))))

-- N X Y
abbrev pub read_site : List (List ℕ) → Option SiteRecord
read_site words =
    with_number words (λ n after-n.
    with_number after-n (λ x after-x.
    with_number after-x (λ y rest.
    at_end rest (record { number = n; x = x; y = y }))))

-- X Y
abbrev pub read_point : List (List ℕ) → Option Point
read_point words = and_then (first_point words) (λ p. at_end p.1 p.0)

-- A B C D
abbrev pub read_rectangle : List (List ℕ) → Option Rectangle
read_rectangle words = and_then (first_rectangle words) (λ p. at_end p.1 p.0)

abbrev pub read_add : ChartKind → List (List ℕ) → Option Command
read_add Zone words = option_map AddEdge (read_edge words)
read_add Site words = option_map AddSite (read_site words)

abbrev pub read_remove : List (List ℕ) → Option Command
read_remove words = with_number words (λ n rest. at_end rest (Remove n))

abbrev pub read_answer : ChartKind → List (List ℕ) → Option Command
read_answer Zone words = option_map AnswerZone (read_point words)
read_answer Site words = option_map AnswerSites (read_rectangle words)

-- A line without words asks for nothing. One that is none of these is unknown.
abbrev pub read_words : ChartKind → List (List ℕ) → Option Command
read_words kind [] = Some Blank
read_words kind (verb ∷ rest) =
    cond (bytes_eq verb (codes "begin")) (read_begin rest)
    (cond (bytes_eq verb (codes "add")) (read_add kind rest)
    (cond (bytes_eq verb (codes "remove")) (read_remove rest)
    (cond (bytes_eq verb (codes "answer")) (read_answer kind rest)
    (cond (bytes_eq verb (codes "list")) (at_end rest Records) None))))

-- Lines of up to 200,000 bytes are read; longer ones are unknown, whatever they hold.
abbrev pub read_command : ChartKind → List ℕ → Option Command
read_command kind line = cond (nat_lt 200000 (length line)) None (read_words kind (words_of line))
