-- The judgement that a verdict stands for.
use Rattle.std.specs.Prelude.{ℕ, List, [], ◌∷◌}
use Rattle.search.specs.declared.verdict.Ways.{Ways}
use Rattle.search.specs.declared.verdict.Ways.TheVariants.{Nowhere, To, ToBoth}
use Rattle.search.specs.declared.verdict.Verdict.{Verdict}
use Rattle.search.specs.Judging.{Judgement}

abbrev pub ways_of : Ways → List ℕ
ways_of Nowhere = []
ways_of (To way) = way ∷ []
ways_of (ToBoth first second) = first ∷ second ∷ []

abbrev pub judgement_of : Verdict → Judgement
judgement_of verdict = record { ways = ways_of verdict.ways; emits = verdict.emits }
