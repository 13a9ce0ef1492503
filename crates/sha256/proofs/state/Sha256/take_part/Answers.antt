use Rattle.std.proofs.Common.{◌≡◌, ℕ, ◌-◌, ◌*◌, ◌/◌, ◌%◌, ◌≤◌, List, ◌++◌, length, take, drop, sym, ap, ◌∙◌, subst, arith}
use Rattle.std.specs.Simd.{first_chunks}
use Rattle.digest.proofs.Chunks.{rejoined}
use Rattle.sha256.specs.Parts.{Taken}
use Rattle.sha256.proofs.state.Sha256.take_part.Goals as goal

pub returns : goal.returns
returns c =
    λ bytes before.
    let part = c.args.part.now in
    let front = c.split_at.result.0.now in
    let rest = c.split_at.result.1.now in
    let blocks = c.as_chunks.result.0.now in
    let tail = c.as_chunks.result.1.now in
    let many : length blocks ≡ length rest / 64 = c.as_chunks.ensures.front_len in
    let enough : 64 * length blocks ≤ length rest = omega arith in
    let are : blocks ≡ first_chunks 64 (length blocks) rest =
    c.as_chunks.ensures.front ∙ ap (λ (k : ℕ). first_chunks 64 k rest) (sym many) in
    let place : length rest / 64 * 64 ≡ 64 * length blocks = omega arith in
    let tail-is : tail ≡ drop (64 * length blocks) rest =
    c.as_chunks.ensures.back ∙ ap (λ (k : ℕ). drop k rest) place in
    let first = c.hold-2.ensures.taken bytes before in
    let middle = c.take_blocks.ensures.taken (bytes ++ front) rest first enough are in
    let last = c.hold-3.ensures.taken ((bytes ++ front) ++ take (64 * length blocks) rest) middle in
    let whole =
    rejoined bytes part front rest tail ((64 - c.from-held.result % 64) % 64) (64 * length blocks)
    c.split_at.ensures.front c.split_at.ensures.back tail-is in
    subst (λ (xs : List ℕ). Taken c.hold-3.new.self xs) whole last
