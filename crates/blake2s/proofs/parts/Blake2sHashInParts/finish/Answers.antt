use Rattle.std.proofs.Common.{◌≡◌, ℕ, ◌-◌, ◌*◌, ◌/◌, true, length, take, ap, ◌∙◌, arith}
use Rattle.blake2s.specs.Mixing.{F}
use Rattle.blake2s.specs.Standard.{filled}
use Rattle.blake2s.proofs.BlockSteps.{whole_message}
use Rattle.blake2s.proofs.parts.Blake2sHashInParts.finish.Goals as goal

pub returns : goal.returns
returns c =
    λ bytes before.
    let counted = c.from-size.ensures ∙ before.counted in
    let held = c.count_pending-held.result in
    let rest = take (c.count_pending-held.result - 0) c.args.self.pending in
    let same : c.count_pending-held.result - 0 ≡ c.count_pending-held.result = omega arith in
    let cut : c.count_pending-held.result - 0 ≡ length bytes - 64 * ((length bytes - 1) / 64) =
    same ∙ c.count_pending-held.ensures ∙ ap (λ (n : ℕ). n - 64 * ((n - 1) / 64)) counted in
    c.bytes_of.ensures ∙
    whole_message bytes rest c.args.self.words c.absorb_last.new.h
    (ap (λ (i : ℕ). take i c.args.self.pending) cut ∙ before.held) before.absorbed
    (c.absorb_last.ensures ∙ ap (λ (i : ℕ). F c.args.self.words (filled rest) i true) counted)
