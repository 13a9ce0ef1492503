use Rattle.std.proofs.Common.{◌≡◌, ℕ, ◌+◌, ◌-◌, ◌/◌, ◌%◌, ◌++◌, length, take, ap, ◌∙◌, arith}
use Rattle.sha256.specs.Standard.{after, padding}
use Rattle.sha256.proofs.WholeMessage.{whole_message}
use Rattle.sha256.proofs.parts.Sha256HashInParts.finish.Goals as goal

pub returns : goal.returns
returns c =
    λ bytes before.
    let size = c.from-size.result in
    let counted : c.from-size.result ≡ length bytes = c.from-size.ensures ∙ before.counted in
    let cut : size % 64 - 0 ≡ length bytes % 64 = omega (arith, ap (λ (i : ℕ). i % 64) counted) in
    let rest = take (size % 64 - 0) c.args.self.pending in
    c.bytes_of.ensures ∙
    whole_message bytes rest c.args.self.words c.absorb_last.new.h
    (ap (λ (i : ℕ). take i c.args.self.pending) cut ∙ before.held) before.absorbed
    (c.absorb_last.ensures ∙
    ap (λ (i : ℕ). after c.args.self.words (rest ++ padding i) ((length rest + 72) / 64)) counted)
