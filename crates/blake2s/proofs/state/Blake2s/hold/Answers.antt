use Rattle.std.proofs.Common.{◌≡◌, ℕ, ◌+◌, ◌-◌, ◌*◌, ◌/◌, ◌≤◌, length, refl, ap, ◌∙◌, arith}
use Rattle.digest.proofs.Writes.{placed}
use Rattle.blake2s.proofs.TakenParts.{held_more}
use Rattle.blake2s.proofs.state.Blake2s.hold.Goals as goal

pub returns : goal.returns
returns c =
    let s = c.args.self.now in
    let few = c.args.few.now in
    let held = c.count_pending-held.result in
    let long : length c.args.self.now.pending ≡ 64 = omega arith in
    record {
      size = refl;
      taken =
          λ bytes before.
          let here : c.count_pending-held.result ≡ length bytes - 64 * ((length bytes - 1) / 64) =
          c.count_pending-held.ensures ∙ ap (λ (n : ℕ). n - 64 * ((n - 1) / 64)) (c.from.ensures ∙ before.counted) in
          let room : length bytes - 64 * ((length bytes - 1) / 64) + length few ≤ 64 =
          omega (arith, here, c.count_pending-held.ensures, c.requires.0) in
          held_more s _ bytes few before room long refl
          (placed s.pending c.copy_from_slice.new.self few held (held + length few - held)
          (length bytes - 64 * ((length bytes - 1) / 64)) here (omega arith) c.copy_from_slice.ensures.after) refl;
    }
