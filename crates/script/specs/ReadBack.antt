-- The line by which a record is listed adds that record again.
use Rattle.std.specs.Prelude.{◌≡◌, Bool, true, ◌&&◌, List, [], ◌∷◌, ℤ, Some}
use Rattle.records.specs.declared.raw.EdgeRecord.{EdgeRecord}
use Rattle.records.specs.declared.raw.SiteRecord.{SiteRecord}
use Rattle.script.specs.declared.command.ChartKind.TheVariants.{Zone, Site}
use Rattle.script.specs.declared.command.Command.TheVariants.{AddEdge, AddSite}
use Rattle.script.specs.Number.{is_number}
use Rattle.script.specs.Lines.{line_of_edge, line_of_site, numbers_of_edge, numbers_of_site}
use Rattle.script.specs.Command.{read_command}

-- Signed 64-bit integers, as every field of a record is.
abbrev pub all_numbers : List ℤ → Bool
all_numbers [] = true
all_numbers (z ∷ zs) = is_number z && all_numbers zs

abbrev pub ListedEdgesReadBack : Type 0
ListedEdgesReadBack =
    (e : EdgeRecord) → all_numbers (numbers_of_edge e) ≡ true → read_command Zone (line_of_edge e) ≡ Some (AddEdge e)

abbrev pub ListedSitesReadBack : Type 0
ListedSitesReadBack =
    (s : SiteRecord) → all_numbers (numbers_of_site s) ≡ true → read_command Site (line_of_site s) ≡ Some (AddSite s)
