use Rattle.std.proofs.Common.{◌≡◌, ℕ, false, length, refl, ap, ◌∙◌, arith}
use Rattle.blake2s.specs.Mixing.{F}
use Rattle.blake2s.proofs.TakenParts.{flushed_none, flushed_block}
use Rattle.blake2s.proofs.state.Blake2s.flush.Goals as goal

pub returns-then-self-gt0 : goal.returns-then-self-gt0
returns-then-self-gt0 c =
    let long : length c.args.self.now.pending ≡ 64 = omega arith in
    record {
      size = refl;
      flushed = λ bytes before. flushed_block c.args.self.now _ bytes before c.requires (omega arith) long
          (c.absorb.ensures ∙ ap (λ (i : ℕ). F c.args.self.now.words c.args.self.now.pending i false) c.from.ensures) refl;
    }

pub returns-else-self-gt0 : goal.returns-else-self-gt0
returns-else-self-gt0 c =
    record {
      size = refl;
      flushed = λ bytes before. flushed_none c.args.self.now bytes before (omega arith);
    }
