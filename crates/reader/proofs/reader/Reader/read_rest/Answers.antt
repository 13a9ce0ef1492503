use Rattle.std.proofs.Common.{◌*◌, take, drop, Ok, sym, ap, ◌∙◌, arith}
use Rattle.reader.specs.Reading.{position_of}
use Rattle.reader.proofs.Outcomes.{string_read_after}
use Rattle.reader.proofs.PartsOfParts.{string_cut}
use Rattle.reader.proofs.reader.Reader.read_rest.Goals as goal

pub returns-clause-answer : goal.returns-clause-answer
returns-clause-answer c =
    let p = position_of c.args.self.now in
    let shape = c.args.shape in
    let kind = c.in_ok-kind.kind in
    let parts = c.split_at-2.result.1.now in
    ap Ok (string_cut p shape kind c.rest.result.now c.split_at.result.0.now parts c.split_at-3.result.0.now c.split_at-3.result.1.now c.string_length-length.result c.string_length-length.ensures c.rest.ensures c.split_at.ensures.front c.split_at-2.ensures.back (c.split_at-3.ensures.front ∙ ap (λ n. take (4 * n) parts) c.from.ensures) (c.split_at-3.ensures.back ∙ ap (λ n. drop (4 * n) parts) c.from.ensures))
    ∙ sym (string_read_after p shape kind c.in_ok-kind.ensures (omega (arith, c.string_length-length.ensures, c.left.ensures, c.if-left-length.false)))
