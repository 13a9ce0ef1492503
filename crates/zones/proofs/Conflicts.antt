-- The search for a conflict among elements that are edges.
use Rattle.std.proofs.Common.{◌≡◌, Bool, ◌||◌, List, [], ◌∷◌, map, refl, ap}
use Rattle.std.specs.List.{list_any}
use Rattle.records.specs.declared.raw.EdgeRecord.{EdgeRecord}
use Rattle.geometry.specs.declared.edge.Edge.{Edge}
use Rattle.geometry.specs.Held.{raw_of}
use Rattle.geometry.specs.Conflict.{conflict}
use Rattle.zones.specs.Edges.{conflicts_with_any}

pub conflicts_any : (e : EdgeRecord) (edges : List Edge) → list_any (λ f. conflict e (raw_of f)) edges ≡ conflicts_with_any e (map raw_of edges)
conflicts_any e [] = refl
conflicts_any e (f ∷ edges) = ap (λ (b : Bool). conflict e (raw_of f) || b) (conflicts_any e edges)
