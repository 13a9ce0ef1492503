use Rattle.std.proofs.Common.{◌≡◌, ◌≤◌, drop}
use Rattle.script.specs.Number.{digits_after}
use Rattle.script.proofs.number.magnitude.Given as goal

abbrev pub invariant-loop-digit : goal.invariant-loop-digit
invariant-loop-digit l =
    (l.value ≤ 9223372036854775808) × (digits_after 0 l.digits ≡ digits_after l.value (drop l.digit-index l.digits))
