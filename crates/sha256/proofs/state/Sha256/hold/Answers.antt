use Rattle.std.proofs.Common.{◌≡◌, ℕ, ◌+◌, ◌-◌, ◌%◌, List, ◌++◌, length, take, drop, sym, ap, ◌∙◌, arith}
use Rattle.sha256.specs.Compression.{compress}
use Rattle.sha256.specs.Parts.{Taken}
use Rattle.sha256.specs.declared.state.Sha256.{Sha256}
use Rattle.digest.proofs.Writes.{placed}
use Rattle.sha256.proofs.TakenParts.{held_more, held_full}
use Rattle.sha256.proofs.state.Sha256.hold.Goals as goal
use Rattle.sha256.proofs.state.Sha256.hold.Goals.{then-held-few-eq64, else-held-few-eq64}

pub returns : goal.returns
returns c =
    let s = c.args.self.now in
    let few = c.args.few.now in
    let held = c.from-held.result % 64 in
    let long : length c.args.self.now.pending ≡ 64 = omega arith in
    let here : (bytes : List ℕ) → Taken s bytes → c.from-held.result % 64 ≡ length bytes % 64 =
    λ bytes before. ap (λ (i : ℕ). i % 64) (c.from-held.ensures ∙ before.counted) in
    let pending : (bytes : List ℕ) → Taken s bytes → take held s.pending ++ (c.copy_from_slice.new.self ++ drop (held + length few - held) (drop held s.pending)) ≡ take (length bytes % 64) s.pending ++ (few ++ drop (length few) (drop (length bytes % 64) s.pending)) =
    λ bytes before.
    placed s.pending c.copy_from_slice.new.self few held (held + length few - held) (length bytes % 64)
    (here bytes before) (omega arith) c.copy_from_slice.ensures.after in
    elim c.if-held-few-eq64.branch [
      | then-held-few-eq64 w ↦
          record {
            size = ap (λ (x : Sha256). x.size + length few) w.self-is;
            taken =
                λ bytes before.
                held_full s _ bytes few before (ap (λ (i : ℕ). i + length few) (sym (here bytes before)) ∙ w.if-held-few-eq64.true) long
                (ap (λ (x : Sha256). x.words) w.self-is ∙ w.absorb.ensures ∙
                ap (compress s.words) (sym (ap (λ (x : Sha256). x.pending) w.self-is)))
                (ap (λ (x : Sha256). x.pending) w.self-is ∙ pending bytes before)
                (ap (λ (x : Sha256). x.size + length few) w.self-is);
          }
      | else-held-few-eq64 w ↦
          record {
            size = ap (λ (x : Sha256). x.size + length few) w.self-is;
            taken =
                λ bytes before.
                held_more s _ bytes few before (let room = c.requires.0 in let open_block = w.if-held-few-eq64.false in let same = here bytes before in let size-is = ap (λ (i : ℕ). i % 64) before.counted in omega arith) long (ap (λ (x : Sha256). x.words) w.self-is)
                (ap (λ (x : Sha256). x.pending) w.self-is ∙ pending bytes before)
                (ap (λ (x : Sha256). x.size + length few) w.self-is);
          }
    ]
