use Rattle.std.proofs.Common.{◌≡◌, ℕ, ◌≤◌, true, List, length, ap, ◌∙◌, arith}
use Rattle.std.proofs.lemmas.List.{take_all}
use Rattle.blake2s.specs.Mixing.{F}
use Rattle.blake2s.proofs.BlockSteps.{full_is}
use Rattle.blake2s.proofs.last.absorb_last.Goals as goal

pub returns-in-Some : goal.returns-in-Some
returns-in-Some c =
    let rest = c.args.rest.now in
    let front = c.in-Some.ensures.cases in
    let enough : 64 ≤ length rest = front.enough in
    let long : length rest ≡ 64 = omega (arith, c.requires) in
    c.absorb.ensures ∙
    ap (λ (b : List ℕ). F c.args.h.now b c.args.size true) (front.same ∙ take_all 64 rest c.requires ∙ full_is rest long)
