use Rattle.std.proofs.Common.{◌≡◌, ◌-◌, ◌*◌}
use Rattle.sha256.specs.Compression.{rounds, schedule}
use Rattle.sha256.specs.Windows.{window}
use Rattle.sha256.proofs.compression.absorb.Given as goal

-- After some quarters of the rounds the window stands at the last of them.
abbrev pub invariant-loop-quarter : goal.invariant-loop-quarter
invariant-loop-quarter l =
    (l.v ≡ rounds l.before (schedule l.block 64) (16 * l.quarter)) ×
    (l.w ≡ window (schedule l.block 64) (16 * (l.quarter - 1)))
