use Rattle.std.proofs.Common.{◌≡◌, cond, get_or, sym, ◌∙◌}
use lib.Bits.{bit_xor}
use Rattle.blake2s.specs.Constants.{IV}
use Rattle.blake2s.specs.Mixing.{started}
use Rattle.std.proofs.lemmas.Bool.{cond-true, cond-false}
use Rattle.blake2s.proofs.compression.first_vector.Goals as goal
use Rattle.blake2s.proofs.compression.first_vector.Goals.{then-last, else-last}

pub returns : goal.returns
unfolding started
returns c =
    let last = c.args.last in
    let flag : c.if-last.flagged ≡ cond last (bit_xor (get_or IV 6 0) 0xffff_ffff) (get_or IV 6 0) =
    elim c.if-last.branch [
      | then-last w ↦ w.flagged-is ∙ sym (cond-true last (bit_xor (get_or IV 6 0) 0xffff_ffff) (get_or IV 6 0) w.if-last.true)
      | else-last w ↦ w.flagged-is ∙ sym (cond-false last (bit_xor (get_or IV 6 0) 0xffff_ffff) (get_or IV 6 0) w.if-last.false)
    ] in
    simp flag
