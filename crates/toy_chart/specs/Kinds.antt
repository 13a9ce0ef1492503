-- The kinds of nodes and their numbers.
use Rattle.std.specs.Prelude.{◌≡◌, ℕ, zero, suc, Some, None, Option, Result, MatchResult}
use Rattle.toy_chart.specs.declared.kind.Kind.{Kind}
use Rattle.toy_chart.specs.declared.kind.Kind.TheVariants.{Nothing, Stone, NoneAndStone}
use Rattle.toy_chart.specs.declared.kind.UnknownKind.{UnknownKind}

abbrev pub kind_number : Kind → ℕ
kind_number Nothing = 0
kind_number Stone = 1
kind_number NoneAndStone = 2

abbrev pub kind_numbered : ℕ → Option Kind
kind_numbered zero = Some Nothing
kind_numbered (suc zero) = Some Stone
kind_numbered (suc (suc zero)) = Some NoneAndStone
kind_numbered (suc (suc (suc number))) = None

abbrev pub StandsFor : ℕ → Result Kind UnknownKind → Type 0
StandsFor number result = MatchResult result (λ kind. kind_numbered number ≡ Some kind) (λ _. kind_numbered number ≡ None)
