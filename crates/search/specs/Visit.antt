-- What a walk of a rose's figure visits, told by the rose alone.
use Rattle.std.specs.Prelude.{◌≡◌, ℕ, ◌+◌, ◌*◌, ◌≤◌, max, List, [], ◌∷◌, length, ℤ, Some, Option}
use Rattle.std.specs.List.{flat_map as joined, slice_get}
use Rattle.node.specs.declared.shape.Shape.{Shape}
use Rattle.search.specs.Node.{Node, bytes_of}
use Rattle.search.specs.Judging.{Judging, Judgeable}
use Rattle.search.specs.Picks.{ahead, picks}
use Rattle.search.specs.Figure.{IsFigure}
use Rattle.search.specs.Walk.{WalkFromRoot}
use Rattle.search.specs.Rose.{Rose, Roses, grown, end, more, how_many, levels}
use Rattle.search.specs.Making.{figure_of, Stands}
use Rattle.search.specs.Laws.{JudgesWell}

-- The kind is known, the numbers and successors are as many as its shape says, and the numbers are fit.
pub record Fits {Q : Type 0} (judging : Judging Q) (kind : ℕ) (numbers : List ℤ) (rs : Roses) : Type 0 where
  pub shape : Shape
  pub judgeable : Judgeable judging shape kind numbers
  pub joined : how_many rs ≡ shape.successors

-- Every node of a rose is such.
abbrev mutual
  pub FitsWhole : {Q : Type 0} → Judging Q → Rose → Type 0
  FitsWhole judging (grown kind numbers rs) = Fits judging kind numbers rs × FitEach judging rs

  pub FitEach : {Q : Type 0} → Judging Q → Roses → Type 0
  FitEach judging end = Unit {0}
  FitEach judging (more r rs) = FitsWhole judging r × FitEach judging rs

-- A rose is visited, then in turn those of its successors to which judging names a way.
abbrev mutual
  pub visit : {Q : Type 0} → Judging Q → Q → Rose → List Rose
  visit judging question (grown kind numbers rs) =
      grown kind numbers rs ∷ joined (λ visited. visited) (picks (visit_each judging question rs) (judging.judge question kind numbers).ways)

  pub visit_each : {Q : Type 0} → Judging Q → Q → Roses → List (List Rose)
  visit_each judging question end = []
  visit_each judging question (more r rs) = visit judging question r ∷ visit_each judging question rs

abbrev pub emits_at : {Q : Type 0} → Judging Q → Q → Rose → Option ℕ
emits_at judging question (grown kind numbers rs) = (judging.judge question kind numbers).emits

-- What visited roses emit.
abbrev pub emissions_of : {Q : Type 0} → Judging Q → Q → List Rose → List ℕ
emissions_of judging question [] = []
emissions_of judging question (r ∷ rs) = ahead (emits_at judging question r) (emissions_of judging question rs)

-- How many bytes the string of a rose's node has, and those of several.
abbrev pub rose_bytes : Rose → ℕ
rose_bytes (grown kind numbers rs) = 4 + 4 * length numbers + 32 * how_many rs

abbrev pub roses_bytes : List Rose → ℕ
roses_bytes [] = 0
roses_bytes (r ∷ rs) = rose_bytes r + roses_bytes rs

-- The nodes of a figure at which roses stand, one by one.
abbrev pub NodesOf : List Node → List Rose → List Node → Type 0
NodesOf figure [] [] = Unit {0}
NodesOf figure [] (node ∷ nodes) = ⊥
NodesOf figure (r ∷ rs) [] = ⊥
NodesOf figure (r ∷ rs) (node ∷ nodes) = ((place : ℕ) × Stands figure r place × (slice_get figure place ≡ Some node)) × NodesOf figure rs nodes

-- A walk of the rose's figure visits the nodes of the visited roses in their order, and emits what they emit.
pub record IsWalked {Q : Type 0} (judging : Judging Q) (question : Q) (limit : ℕ) (rose : Rose) : Type 0 where
  pub visited : List Node
  pub walk : WalkFromRoot judging question limit (figure_of rose) visited (emissions_of judging question (visit judging question rose))
  pub nodes : NodesOf (figure_of rose) (visit judging question rose) visited
  pub bytes : bytes_of visited ≡ roses_bytes (visit judging question rose)

-- Some wait in a row, the first to be taken first, each with the most that wait at once while it is visited alone: the most
-- that wait at once while all are visited.
abbrev pub crowd_of : List ℕ → ℕ
crowd_of [] = 0
crowd_of (alone ∷ others) = max (alone + length others) (crowd_of others)

-- The most that wait at once while a rose is visited alone.
abbrev mutual
  pub crowd : {Q : Type 0} → Judging Q → Q → Rose → ℕ
  crowd judging question (grown kind numbers rs) = max 1 (crowd_of (picks (crowd_each judging question rs) (judging.judge question kind numbers).ways))

  pub crowd_each : {Q : Type 0} → Judging Q → Q → Roses → List ℕ
  crowd_each judging question end = []
  crowd_each judging question (more r rs) = crowd judging question r ∷ crowd_each judging question rs

abbrev pub CrowdsAreAllowed : {Q : Type 0} → Judging Q → Type 0
CrowdsAreAllowed {Q} judging =
    JudgesWell judging → (question : Q) (limit : ℕ) (rose : Rose) → FitsWhole judging rose → crowd judging question rose ≤ limit → IsWalked judging question limit rose

-- No more wait than the rose has levels.
abbrev pub CrowdsAreSmall : {Q : Type 0} → Judging Q → Type 0
CrowdsAreSmall {Q} judging = JudgesWell judging → (question : Q) (rose : Rose) → FitsWhole judging rose → crowd judging question rose ≤ levels rose

abbrev pub RosesAreWalked : {Q : Type 0} → Judging Q → Type 0
RosesAreWalked {Q} judging =
    JudgesWell judging → (question : Q) (limit : ℕ) (rose : Rose) → FitsWhole judging rose → levels rose ≤ limit → IsWalked judging question limit rose

abbrev pub RosesMakeFigures : {Q : Type 0} → Judging Q → Type 0
RosesMakeFigures judging = (rose : Rose) → FitsWhole judging rose → IsFigure judging (figure_of rose)
