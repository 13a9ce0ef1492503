-- What is true of the figure of every list of sites that a register can hold.
use Rattle.std.specs.Prelude.{◌≡◌, ℕ, ◌≤◌, List, [], ◌∷◌, length, ℤ, pos, Ok, nat_le}
use Rattle.records.specs.declared.raw.SiteRecord.{SiteRecord}
use Rattle.records.specs.declared.raw.Rectangle.{Rectangle}
use Rattle.slices.specs.Order.{sorted}
use Rattle.sites.specs.Holdable.{CanBeHeld}
use Rattle.sites.specs.Question.{sites_in}
use Rattle.search.specs.Node.{Node, bytes_of}
use Rattle.search.specs.declared.sheet.SheetRecord.{SheetRecord}
use Rattle.search.specs.Sheet.{drawn_count}
use Rattle.search.specs.Rose.{levels, two, three}
use Rattle.search.specs.Walk.{WalkFromRoot}
use Rattle.search.specs.Laws.{JudgesWell, Laws}
use Rattle.search.specs.Visit.{crowd, FitsWhole, visit, emissions_of, roses_bytes}
use Rattle.site_figure.specs.Judge.{site_judging}
use Rattle.site_figure.specs.Halving.{tree_of, left_half, right_half}
use Rattle.site_figure.specs.Figure.{span_of, x_rose, y_rose, x_tree, y_tree, site_figure, site_drawing}

abbrev pub node_of : ℕ → List ℤ → List ℕ → Node
node_of kind numbers successors = record { kind = kind; numbers = numbers; successors = successors }

abbrev pub site_at : ℕ → ℕ → ℕ → SiteRecord
site_at number x y = record { number = pos number; x = pos x; y = pos y }

-- Sites 1 (10, 10), 2 (20, 10) and 3 (20, 30).
abbrev pub three_sites : List SiteRecord
three_sites = site_at 1 10 10 ∷ site_at 2 20 10 ∷ site_at 3 20 30 ∷ []

-- Node 2 is made once and serves both node 3 and node 5.
abbrev pub ThreeSitesMakeSevenNodes : Type 0
ThreeSitesMakeSevenNodes =
    site_figure three_sites
    ≡ node_of 6 (pos 1 ∷ pos 10 ∷ pos 10 ∷ []) []
    ∷ node_of 6 (pos 2 ∷ pos 20 ∷ pos 10 ∷ []) []
    ∷ node_of 5 (pos 10 ∷ pos 10 ∷ []) (0 ∷ 1 ∷ [])
    ∷ node_of 4 (pos 10 ∷ pos 20 ∷ []) (0 ∷ 1 ∷ 2 ∷ [])
    ∷ node_of 6 (pos 3 ∷ pos 20 ∷ pos 30 ∷ []) []
    ∷ node_of 5 (pos 10 ∷ pos 30 ∷ []) (2 ∷ 4 ∷ [])
    ∷ node_of 4 (pos 10 ∷ pos 20 ∷ []) (3 ∷ 4 ∷ 5 ∷ [])
    ∷ []

abbrev pub rectangle : ℕ → ℕ → ℕ → ℕ → Rectangle
rectangle west east south north = record { west = pos west; east = pos east; south = pos south; north = pos north }

-- A visit takes so many strings and bytes, and emits these numbers in this order.
pub record Visits (q : Rectangle) (strings bytes : ℕ) (emitted : List ℕ) : Type 0 where
  pub strings_are : length (visit site_judging q (x_tree three_sites)) ≡ strings
  pub bytes_are : roses_bytes (visit site_judging q (x_tree three_sites)) ≡ bytes
  pub emits : emissions_of site_judging q (visit site_judging q (x_tree three_sites)) ≡ emitted

-- The first goes across at the root, the second left and right.
abbrev pub TwoRectanglesAreVisited : Type 0
TwoRectanglesAreVisited = Visits (rectangle 0 100 0 15) 6 308 (1 ∷ 2 ∷ []) × Visits (rectangle 20 20 0 100) 5 264 (2 ∷ 3 ∷ [])

abbrev pub SitesAreJudgedWell : Type 0
SitesAreJudgedWell = JudgesWell site_judging

-- A list of two or more sites has the x trees of its halves under its x span, and the y tree of all across; and so for y trees.
abbrev pub TreesHalveTheirSites : Type 0
TreesHalveTheirSites =
    (sites : List SiteRecord) → 2 ≤ length sites
    → (x_rose (tree_of sites) ≡ three 4 (span_of (λ s. s.x) sites) (x_rose (tree_of (left_half sites))) (x_rose (tree_of (right_half sites))) (y_tree sites))
    × (y_rose (tree_of sites) ≡ two 5 (span_of (λ s. s.y) sites) (y_rose (tree_of (left_half sites))) (y_rose (tree_of (right_half sites))))

-- Every node of the figure is of a known kind, fit and of its shape.
abbrev pub FiguresAreFit : Type 0
FiguresAreFit = (held : List SiteRecord) → CanBeHeld held → FitsWhole site_judging (x_tree held)

-- A figure has at most nine levels: an x span, seven y spans, a site.
abbrev pub FiguresHaveFewLevels : Type 0
FiguresHaveFewLevels = (held : List SiteRecord) → CanBeHeld held → levels (x_tree held) ≤ 9

-- At most eight wait at once.
abbrev pub FewWait : Type 0
FewWait = (held : List SiteRecord) (q : Rectangle) → CanBeHeld held → crowd site_judging q (x_tree held) ≤ 8

-- The strings of the nodes that a visit takes have at most 20,628 bytes.
abbrev pub VisitsAreShort : Type 0
VisitsAreShort =
    (held : List SiteRecord) (q : Rectangle) → CanBeHeld held → roses_bytes (visit site_judging q (x_tree held)) ≤ 20628

-- What a visit emits, sorted, is the answer by definition, for every list of sites.
abbrev pub VisitsTellTheSitesInside : Type 0
VisitsTellTheSitesInside =
    (sites : List SiteRecord) (q : Rectangle) → sorted nat_le (emissions_of site_judging q (visit site_judging q (x_tree sites))) ≡ sites_in sites q

-- A walk of the figure by a rectangle has at most 8 waiting and takes at most 20,628 bytes, and what it emits, sorted, is the
-- answer by definition.
pub record IsAnswered (held : List SiteRecord) (q : Rectangle) : Type 0 where
  pub visited : List Node
  pub emitted : List ℕ
  pub walk : WalkFromRoot site_judging q 8 (site_figure held) visited emitted
  pub short : bytes_of visited ≤ 20628
  pub exact : sorted nat_le emitted ≡ sites_in held q

abbrev pub RectanglesAreAnswered : Type 0
RectanglesAreAnswered = (held : List SiteRecord) (q : Rectangle) → CanBeHeld held → IsAnswered held q

-- All that every chart kind shows.
abbrev pub SitesAreLawful : Type 0
SitesAreLawful = Laws site_judging site_drawing

-- A figure has at most 1,024 nodes.
abbrev pub FiguresHaveFewNodes : Type 0
FiguresHaveFewNodes = (held : List SiteRecord) → CanBeHeld held → length (site_figure held) ≤ 1024

-- So a sheet of 1,024 records always has room for it.
abbrev pub FiguresHaveRoom : Type 0
FiguresHaveRoom =
    (held : List SiteRecord) (sheet : List SheetRecord) → CanBeHeld held → 1024 ≤ length sheet
    → drawn_count (site_figure held) sheet ≡ Ok (length (site_figure held))
