use Rattle.std.proofs.Common.{◌≡◌}
use Rattle.office.proofs.Stored.{stored_up_to}
use Rattle.office.proofs.digests.store_digests.Given as goal

-- The records before the place have the digests of their nodes, and the others are as they were.
abbrev pub invariant-loop-place : goal.invariant-loop-place
invariant-loop-place g l = l.counted ≡ stored_up_to g.C.Chart.judging g.H.Hash.digest l.initial.counted l.place
