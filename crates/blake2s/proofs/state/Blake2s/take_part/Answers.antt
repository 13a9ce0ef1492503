use Rattle.std.proofs.Common.{◌≡◌, ℕ, ◌-◌, ◌%◌, List, ◌++◌, take, ap, ◌∙◌, subst, append_assoc}
use Rattle.std.proofs.lemmas.List.{take-append-drop}
use Rattle.blake2s.specs.Parts.{Taken}
use Rattle.blake2s.proofs.state.Blake2s.take_part.Goals as goal

pub returns : goal.returns
returns c =
    λ bytes before.
    let part = c.args.part.now in
    let front = c.split_at.result.0.now in
    let rest = c.split_at.result.1.now in
    let cut = (64 - c.count_pending-held.result) % 64 in
    let held = c.hold-2.ensures.taken bytes before in
    let flushed = c.flush.ensures.flushed (bytes ++ front) held in
    let last = c.take_rest.ensures (bytes ++ front) flushed in
    let whole : (bytes ++ front) ++ rest ≡ bytes ++ part =
    append_assoc bytes front rest ∙
    ap (λ (xs : List ℕ). bytes ++ (xs ++ rest)) c.split_at.ensures.front ∙
    ap (λ (xs : List ℕ). bytes ++ (take cut part ++ xs)) c.split_at.ensures.back ∙
    ap (λ (xs : List ℕ). bytes ++ xs) (take-append-drop cut part) in
    subst (λ (xs : List ℕ). Taken c.take_rest.new.self xs) whole last
