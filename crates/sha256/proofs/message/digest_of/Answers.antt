use Rattle.std.proofs.Common.{◌≡◌, ℕ, ◌*◌, ◌/◌, length, drop, sym, ap, ◌∙◌, arith}
use Rattle.std.specs.Simd.{first_chunks}
use Rattle.sha256.specs.Constants.{H⁰}
use Rattle.sha256.specs.Standard.{after}
use Rattle.sha256.proofs.WholeMessage.{whole_message}
use Rattle.sha256.proofs.message.digest_of.Goals as goal

pub returns : goal.returns
returns c =
    let message = c.args.message.now in
    let n = length message in
    let chunks = c.as_chunks.ensures in
    let place : n / 64 * 64 ≡ 64 * (n / 64) = omega arith in
    c.bytes_of.ensures ∙
    whole_message message _ c.absorb_blocks.new.h c.absorb_last.new.h
    (chunks.back ∙ ap (λ (k : ℕ). drop k message) place)
    (c.absorb_blocks.ensures message (chunks.front ∙ ap (λ (k : ℕ). first_chunks 64 k message) (sym chunks.front_len)) ∙
    ap (after H⁰ message) chunks.front_len) c.absorb_last.ensures
