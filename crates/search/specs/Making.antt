-- Figures made from roses: the successors of a node are made first, in their order, then the node. A node alike to one made
-- earlier is that one; any other takes the next place.
use Rattle.std.specs.Prelude.{◌≡◌, ℕ, suc, ◌<◌, Bool, true, false, cond, ◌&&◌, List, [], ◌∷◌, ◌++◌, length, Some, None, Option, ◌==◌, nat_eq}
use Rattle.std.specs.List.{slice_get, AllByRecursion}
use Rattle.records.specs.Held.{same_number}
use Rattle.search.specs.Node.{Node}
use Rattle.search.specs.Figure.{root_of}
use Rattle.search.specs.Rose.{Rose, Roses, grown, end, more}

-- Two lists agree, element by element.
abbrev pub agree : {X : Type 0} → (X → X → Bool) → List X → List X → Bool
agree same [] [] = true
agree same [] (y ∷ ys) = false
agree same (x ∷ xs) [] = false
agree same (x ∷ xs) (y ∷ ys) = same x y && agree same xs ys

-- Alike in kind, numbers and successor places.
abbrev pub alike : Node → Node → Bool
alike node other =
    (node.kind == other.kind) && (agree same_number node.numbers other.numbers && agree nat_eq node.successors other.successors)

-- The first place of an alike node, counted from the place given.
abbrev pub alike_from : ℕ → Node → List Node → Option ℕ
alike_from place node [] = None
alike_from place node (other ∷ others) = cond (alike node other) (Some place) (alike_from (suc place) node others)

abbrev pub place_of_alike : Node → List Node → Option ℕ
place_of_alike node nodes = alike_from 0 node nodes

-- The nodes made so far, and the place of the last one asked for.
pub record Made : Type 0 where
  pub nodes : List Node
  pub place : ℕ

abbrev pub found_or_next : List Node → Node → Option ℕ → Made
found_or_next nodes node (Some place) = record { nodes = nodes; place = place }
found_or_next nodes node None = record { nodes = nodes ++ node ∷ []; place = length nodes }

-- One more node.
abbrev pub made_node : List Node → Node → Made
made_node nodes node = found_or_next nodes node (place_of_alike node nodes)

pub record MadeEach : Type 0 where
  pub nodes : List Node
  pub places : List ℕ

-- One more rose, and several in their order.
abbrev mutual
  pub made : List Node → Rose → Made
  made nodes (grown kind numbers rs) =
      let successors = made_each nodes rs in
      made_node successors.nodes (record { kind = kind; numbers = numbers; successors = successors.places })

  pub made_each : List Node → Roses → MadeEach
  made_each nodes end = record { nodes = nodes; places = [] }
  made_each nodes (more r rs) =
      let first = made nodes r in
      let rest = made_each first.nodes rs in
      record { nodes = rest.nodes; places = first.place ∷ rest.places }

-- The figure of a rose.
abbrev pub figure_of : Rose → List Node
figure_of rose = (made [] rose).nodes

-- A rose is no part of itself, so its root is never found among the nodes made before it: it is the last node.
abbrev pub RootIsLast : Type 0
RootIsLast = (rose : Rose) → ((made [] rose).place ≡ root_of (figure_of rose)) × (0 < length (figure_of rose))

-- A rose stands at a place of a figure: the node there has its kind and numbers, and its successors stand, in their order, at
-- the successor places of that node, which are before it.
abbrev mutual
  pub Stands : List Node → Rose → ℕ → Type 0
  Stands figure (grown kind numbers rs) place =
      (successors : List ℕ) × (slice_get figure place ≡ Some (record { kind = kind; numbers = numbers; successors = successors })) × StandEach figure rs successors × AllByRecursion (λ successor. successor < place) successors

  pub StandEach : List Node → Roses → List ℕ → Type 0
  StandEach figure end places = places ≡ []
  StandEach figure (more r rs) places = (first : ℕ) × (rest : List ℕ) × (places ≡ first ∷ rest) × Stands figure r first × StandEach figure rs rest

-- A rose stands at the root of its figure.
abbrev pub RosesStandInTheirFigures : Type 0
RosesStandInTheirFigures = (rose : Rose) → Stands (figure_of rose) rose (root_of (figure_of rose))
