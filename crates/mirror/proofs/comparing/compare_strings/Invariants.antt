use Rattle.std.proofs.Common.{◌-◌, [], ◌∷◌, length}
use Rattle.calls.specs.Sheets.{nodes_of, stored_digests}
use Rattle.slices.specs.Stacks.{contents}
use Rattle.mirror.proofs.Compared.{ComparedSoFar}
use Rattle.mirror.proofs.comparing.compare_strings.Given as goal

-- What is compared so far is the same, and what waits decides the rest.
abbrev pub invariant-loop-place : goal.invariant-loop-place
invariant-loop-place g l =
    ComparedSoFar g.C.Chart.judging g.H.Hash.digest l.asked.question.now (nodes_of g.C.Chart.judging l.asked.counted.now) (stored_digests l.asked.counted.now)
    ((length l.asked.counted.now - 1) ∷ []) l.proof (contents l.waiting.stack) l.at

-- Every string has some bytes, and those left fall.
abbrev pub decreases-loop-place : goal.decreases-loop-place
decreases-loop-place g l = length l.proof - l.at
