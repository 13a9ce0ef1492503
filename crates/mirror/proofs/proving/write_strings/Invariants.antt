use Rattle.std.proofs.Common.{◌-◌, [], ◌∷◌, length}
use Rattle.calls.specs.Sheets.{nodes_of, stored_digests}
use Rattle.slices.specs.Stacks.{contents}
use Rattle.mirror.proofs.Written.{WrittenSoFar}
use Rattle.mirror.proofs.proving.write_strings.Given as goal

-- What is written and what waits are together what the root gives.
abbrev pub invariant-loop-place : goal.invariant-loop-place
invariant-loop-place g l =
    WrittenSoFar g.C.Chart.judging l.asked.question.now (nodes_of g.C.Chart.judging l.asked.counted.now) (stored_digests l.asked.counted.now)
    ((length l.asked.counted.now - 1) ∷ []) (length l.initial.buffer) (contents l.waiting.stack) l.proved.strings l.proved.bytes l.buffer

-- Every string has some bytes, and the room for them falls.
abbrev pub decreases-loop-place : goal.decreases-loop-place
decreases-loop-place g l = length l.initial.buffer - l.proved.bytes
