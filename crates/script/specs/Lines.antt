-- The lines that the program answers with, without the line's end.
use Rattle.std.specs.Prelude.{ℕ, List, [], ◌∷◌, ◌++◌, ℤ, pos, codes}
use Rattle.std.specs.Fmt.{signed_decimal}
use Rattle.std.specs.List.{flat_map}
use Rattle.records.specs.declared.raw.EdgeRecord.{EdgeRecord}
use Rattle.records.specs.declared.raw.SiteRecord.{SiteRecord}
use Rattle.refusal.specs.Table as table
use Rattle.refusal.specs.declared.Refusal.{Refusal}
use Rattle.script.specs.declared.command.ChartKind.{ChartKind}
use Rattle.script.specs.declared.command.ChartKind.TheVariants.{Zone, Site}
use Rattle.script.specs.declared.command.HashName.{HashName}
use Rattle.script.specs.declared.command.HashName.TheVariants.{Sha256, Blake2s}
use Rattle.script.specs.declared.reply.Reply.{Reply}
use Rattle.script.specs.declared.reply.Reply.TheVariants as reply

abbrev pub after_space : List ℕ → List ℕ
after_space text = 32 ∷ text

-- A number in plain decimal, after a space.
abbrev pub field : ℤ → List ℕ
field z = after_space (signed_decimal z)

abbrev pub with_numbers : List ℕ → List ℤ → List ℕ
with_numbers verb numbers = verb ++ flat_map field numbers

abbrev pub numbers_of_edge : EdgeRecord → List ℤ
numbers_of_edge e = e.number ∷ e.x1 ∷ e.y1 ∷ e.x2 ∷ e.y2 ∷ e.zone ∷ []

abbrev pub numbers_of_site : SiteRecord → List ℤ
numbers_of_site s = s.number ∷ s.x ∷ s.y ∷ []

-- A record is listed by the words that add it.
abbrev pub line_of_edge : EdgeRecord → List ℕ
line_of_edge e = with_numbers (codes "add") (numbers_of_edge e)

abbrev pub line_of_site : SiteRecord → List ℕ
line_of_site s = with_numbers (codes "add") (numbers_of_site s)

abbrev pub line_of_sites : List ℕ → List ℕ
line_of_sites [] = codes "sites none"
line_of_sites (n ∷ ns) = codes "sites" ++ flat_map (λ m. field (pos m)) (n ∷ ns)

abbrev pub name_of_kind : ChartKind → List ℕ
name_of_kind Zone = codes "zone"
name_of_kind Site = codes "site"

abbrev pub name_of_hash : HashName → List ℕ
name_of_hash Sha256 = codes "sha256"
name_of_hash Blake2s = codes "blake2s"

abbrev pub line_of_begun : ChartKind → HashName → List ℕ
line_of_begun kind hash = (codes "begun " ++ name_of_kind kind) ++ (codes " " ++ name_of_hash hash)

abbrev pub line_of_refusal : Refusal → List ℕ
line_of_refusal refusal =
    with_numbers (codes "refused") (pos (table.number_of refusal) ∷ []) ++ (codes ": " ++ table.words_of refusal)

-- A line that is no command comes back as it came.
abbrev pub line_of_unknown : List ℕ → List ℕ
line_of_unknown line = codes "unknown: " ++ line

abbrev pub line_of : Reply → List ℕ
line_of (reply.Begun kind hash) = line_of_begun kind hash
line_of (reply.Added n) = with_numbers (codes "added") (n ∷ [])
line_of (reply.Removed n) = with_numbers (codes "removed") (n ∷ [])
line_of (reply.InZone zone) = with_numbers (codes "zone") (pos zone ∷ [])
line_of (reply.Edge edge) = line_of_edge edge
line_of (reply.Place site) = line_of_site site
line_of (reply.Refused refusal) = line_of_refusal refusal

-- A line with its end.
abbrev pub ended : List ℕ → List ℕ
ended line = line ++ (10 ∷ [])
