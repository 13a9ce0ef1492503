-- Whether every successor stands before a place.
use Rattle.std.proofs.Common.{◌≡◌, ℕ, ◌<◌, true, ltb, List, [], ◌∷◌}
use Rattle.std.specs.List.{AllByRecursion}
use Rattle.std.proofs.lemmas.Bool.{and_parts, ltb-true}
use Rattle.calls.specs.Sheets.{all_before}

-- what the test says of each
pub each_before : (place : ℕ) (successors : List ℕ) → all_before place successors ≡ true → AllByRecursion (λ successor. successor < place) successors
each_before place [] h = tt
each_before place (successor ∷ successors) h =
    let parts = and_parts (ltb successor place) (all_before place successors) h in
    (ltb-true successor place parts.0, each_before place successors parts.1)
