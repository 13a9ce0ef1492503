-- What is true of the figure of every list of edges that a register can hold, and of every point.
use Rattle.std.specs.Prelude.{◌≡◌, ℕ, ◌≤◌, List, length, ℤ, Ok}
use Rattle.records.specs.declared.raw.EdgeRecord.{EdgeRecord}
use Rattle.records.specs.declared.raw.Point.{Point}
use Rattle.search.specs.Rose.{Rose, levels}
use Rattle.search.specs.Node.{Node, bytes_of}
use Rattle.search.specs.Visit.{FitsWhole, visit, emissions_of, roses_bytes}
use Rattle.search.specs.Walk.{WalkFromRoot, most_waiting}
use Rattle.search.specs.declared.sheet.SheetRecord.{SheetRecord}
use Rattle.search.specs.Sheet.{drawn_count}
use Rattle.search.specs.Laws.{Laws}
use Rattle.zones.specs.Holdable.{CanBeHeld}
use Rattle.zone_figure.specs.Judge.{zone_judging}
use Rattle.zone_figure.specs.Halving.{IsHalved}
use Rattle.zone_figure.specs.Slab.{edges_before}
use Rattle.zone_figure.specs.Figure.{bounds_before, zone_tree, zone_figure, zone_answer, zone_drawing}

-- Every node is of a known kind, of its shape, and fit.
abbrev pub ZoneTreesAreFit : Type 0
ZoneTreesAreFit = (held : List EdgeRecord) → CanBeHeld held → FitsWhole zone_judging (zone_tree held)

-- At most 8 splits, 7 edges and a zone stand one below the other.
abbrev pub ZoneTreesAreLow : Type 0
ZoneTreesAreLow = (held : List EdgeRecord) → CanBeHeld held → levels (zone_tree held) ≤ 16

-- A visit emits the zone of the point by definition, and nothing else; it reads at most 16 strings, and 1,172 bytes.
pub record VisitAnswers (tree : Rose) (p : Point) (answer : List ℕ) : Type 0 where
  pub exact : emissions_of zone_judging p (visit zone_judging p tree) ≡ answer
  pub strings : length (visit zone_judging p tree) ≤ 16
  pub bytes : roses_bytes (visit zone_judging p tree) ≤ 1172

abbrev pub VisitsAnswer : Type 0
VisitsAnswer =
    (held : List EdgeRecord) (p : Point) → CanBeHeld held → VisitAnswers (zone_tree held) p (zone_answer held p)

-- Every walk of the figure emits the answer, and reads at most 16 strings and 1,172 bytes.
pub record WalkAnswers (visited : List Node) (emitted answer : List ℕ) : Type 0 where
  pub exact : emitted ≡ answer
  pub strings : length visited ≤ 16
  pub bytes : bytes_of visited ≤ 1172

abbrev pub WalksAnswer : Type 0
WalksAnswer =
    (held : List EdgeRecord) (p : Point) (visited : List Node) (emitted : List ℕ) → CanBeHeld held
    → WalkFromRoot zone_judging p most_waiting (zone_figure held) visited emitted → WalkAnswers visited emitted (zone_answer held p)

-- Never does more than one node wait.
abbrev pub WalksWaitAlone : Type 0
WalksWaitAlone =
    (limit : ℕ) (figure : List Node) (p : Point) (visited : List Node) (emitted : List ℕ)
    → WalkFromRoot zone_judging p limit figure visited emitted → WalkFromRoot zone_judging p 1 figure visited emitted

-- Slabs and edges are halved as the bushes say.
pub record Halved : Type 0 where
  pub slabs : IsHalved ℤ bounds_before
  pub edges : IsHalved EdgeRecord edges_before

-- A figure has at most 4,289 nodes: 65 zones, 128 splits, and 4,096 edges in all slabs.
abbrev pub ZoneFiguresAreSmall : Type 0
ZoneFiguresAreSmall = (held : List EdgeRecord) → CanBeHeld held → length (zone_figure held) ≤ 4289

-- So a sheet with as many records is never too small.
abbrev pub SheetsSuffice : Type 0
SheetsSuffice =
    (held : List EdgeRecord) (sheet : List SheetRecord) → CanBeHeld held → 4289 ≤ length sheet → drawn_count (zone_figure held) sheet ≡ Ok (length (zone_figure held))

-- So the zone chart is lawful.
abbrev pub ZoneChartsAreLawful : Type 0
ZoneChartsAreLawful = Laws zone_judging zone_drawing
