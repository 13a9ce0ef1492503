use Rattle.std.proofs.Common.{ℕ, ◌-◌, ◌*◌, List, ◌∷◌, ◌++◌, length, take, replicate, ap, ◌∙◌, arith}
use Rattle.sha256.specs.Compression.{compress}
use Rattle.sha256.specs.Standard.{eight_bytes}
use Rattle.sha256.specs.declared.words.Words.{Words}
use Rattle.sha256.proofs.PaddedEnd.{one_block, two_blocks}
use Rattle.sha256.proofs.last.absorb_last.Goals as goal
use Rattle.sha256.proofs.last.absorb_last.Goals.{then-rest-ge56, else-rest-ge56}

pub returns : goal.returns
returns c =
    let h = c.args.h.now in
    let rest = c.args.rest.now in
    let size = c.args.size in
    let ended = rest ++ (128 ∷ replicate (63 - length rest) 0) in
    let bits = eight_bytes (8 * size) in
    let filled = λ (xs : List ℕ). take 56 xs ++ bits in
    c.absorb-2.ensures ∙ ap (compress c.if-rest-ge56.h) c.put_length.ensures ∙
    elim c.if-rest-ge56.branch [
      | then-rest-ge56 w ↦
          ap (λ (xs : List ℕ). compress c.if-rest-ge56.h (filled xs)) w.block-is ∙
          ap (λ (v : Words). compress v (filled (replicate 64 0)))
          (w.h-is ∙ w.absorb.ensures ∙ ap (compress h) c.ended-block.ensures) ∙
          two_blocks h rest size c.requires.0 (omega arith)
      | else-rest-ge56 w ↦
          ap (λ (xs : List ℕ). compress c.if-rest-ge56.h (filled xs)) (w.block-is ∙ c.ended-block.ensures) ∙
          ap (λ (v : Words). compress v (filled ended)) w.h-is ∙
          one_block h rest size c.requires.0 (omega arith)
    ]
