-- What comparing one node's string shows.
use Rattle.std.specs.Prelude.{ℕ, List, length, Ok, Result, nat_le}
use Rattle.std.specs.declared.ops.ControlFlow.{ControlFlow}
use Rattle.std.specs.declared.ops.ControlFlow.TheVariants.{Break, Continue}
use Rattle.refusal.specs.declared.Refusal.{Refusal}
use Rattle.refusal.specs.declared.Refusal.TheVariants.{StackFull}
use Rattle.reader.specs.Reading.{Position, onward}
use Rattle.search.specs.Node.{Node}
use Rattle.search.specs.Judging.{Judging}
use Rattle.search.specs.Walk.{waiting_after, most_waiting}
use Rattle.search.specs.Honest.{string_in}
use Rattle.calls.specs.Chain.{guard, choose}
use Rattle.calls.specs.declared.outcomes.Comparison.{Comparison}
use Rattle.calls.specs.Sheets.{sound_at}
use Rattle.calls.specs.Comparing.{differs_at, goes_on_with}
use Rattle.mirror.specs.Steps.{end_of}

-- The node at a place is sound; where the proof goes on with its string, no more wait after it than may, and otherwise the
-- proof differs there.
abbrev pub node_compared : {Q : Type 0} → Judging Q → (List ℕ → List ℕ) → Q → List Node → List (List ℕ) → ℕ → Position → List ℕ → Result (ControlFlow Comparison ℕ) Refusal
node_compared judging hash question nodes digests place p waiting =
    onward (sound_at judging nodes place) (λ node.
    choose (goes_on_with p (string_in digests node))
    (λ _.
    onward (guard (nat_le (length (waiting_after judging question node waiting)) most_waiting) StackFull) (λ _.
    Ok (Continue (end_of digests p.at node))))
    (λ _. Ok (Break (differs_at judging hash place (string_in digests node) p))))
