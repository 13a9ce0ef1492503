use Rattle.std.proofs.Common.{◌≡◌, ◌+◌, ◌-◌, ◌*◌, sym, refl, ap, ◌∙◌, arith}
use Rattle.sha256.specs.Compression.{compress, rounds, added, schedule}
use Rattle.sha256.specs.Windows.{window}
use Rattle.sha256.proofs.compression.absorb.Goals as goal
use Rattle.sha256.proofs.compression.absorb.Goals.{then-quarter-gt0, else-quarter-gt0}

pub loop-quarter-init : goal.loop-quarter-init
unfolding rounds
loop-quarter-init c = (refl, c.first_sixteen-w.ensures)

pub loop-quarter-preserved : goal.loop-quarter-preserved
loop-quarter-preserved c =
    let q = c.loop-quarter.quarter in
    let h = c.args.h.now in
    let ws = schedule c.args.block.now 64 in
    let here : 16 * (q + 1 - 1) ≡ 16 * q = omega arith in
    let w-is : c.if-quarter-gt0.w ≡ window ws (16 * q) =
    elim c.if-quarter-gt0.branch [
      | then-quarter-gt0 w ↦
          (let next : 16 * (q - 1) + 16 ≡ 16 * q = omega arith in
          w.w-is ∙ w.next_sixteen.ensures c.args.block.now (16 * (q - 1)) (omega arith) c.loop-quarter.invariant.1 ∙
          ap (window ws) next)
      | else-quarter-gt0 w ↦
          (let start : 16 * (q - 1) ≡ 16 * q = omega arith in
          w.w-is ∙ c.loop-quarter.invariant.1 ∙ ap (window ws) start)
    ] in
    let more : 16 * q + 16 ≡ 16 * (q + 1) = omega arith in
    (c.sixteen_rounds-v.ensures h ws c.loop-quarter.invariant.0 w-is ∙ ap (rounds h ws) more, w-is ∙ ap (window ws) (sym here))

pub returns : goal.returns
unfolding compress
returns c =
    let h = c.args.h.now in
    let ws = schedule c.args.block.now 64 in
    let last : 16 * c.loop-quarter.quarter ≡ 64 = omega arith in
    c.sum.ensures ∙ ap (added h) (c.loop-quarter.invariant.0 ∙ ap (rounds h ws) last)
