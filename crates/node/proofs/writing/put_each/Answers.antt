use Rattle.std.proofs.Common.{◌+◌, length, ap, ◌∙◌, arith}
use Rattle.std.proofs.lemmas.List.{take_all}
use Rattle.std.specs.List.{flat_map}
use Rattle.node.specs.Writing.{put_at}
use Rattle.node.proofs.Buffers.{put_none}
use Rattle.node.proofs.Joining.{joined_within, put_next, end_next}
use Rattle.node.proofs.writing.put_each.Goals as goal

pub put-end-requires : goal.put-end-requires
put-end-requires g c =
    let f = g.T.Encoded.encoding in
    omega (arith, c.requires.room, ap length c.encoded.ensures, ap (λ x. length (f x)) c.item-item.is, c.loop-item.invariant.0, c.loop-item.auto.out, joined_within f c.args.items.now c.loop-item.item-index c.item-item.result c.loop-item-test.true)

pub loop-item-init : goal.loop-item-init
loop-item-init g c = (omega arith, put_none c.args.out.now c.args.at)

pub loop-item-preserved : goal.loop-item-preserved
loop-item-preserved g c =
    let f = g.T.Encoded.encoding in
    let item = c.item-item.result in
    let bytes = c.encoded.ensures ∙ ap f c.item-item.is in (
      c.put-end.ensures.answer ∙ end_next f c.args.items.now c.encoded.result c.args.at c.loop-item.end c.loop-item.item-index item c.loop-item-test.true c.loop-item.invariant.0 bytes,
      c.put-end.ensures.after ∙ put_next f c.args.items.now c.args.out.now c.loop-item.out c.encoded.result c.args.at c.loop-item.end c.loop-item.item-index item c.loop-item-test.true (omega (arith, c.requires.room)) c.loop-item.invariant.1 c.loop-item.invariant.0 bytes,
    )

pub returns : goal.returns
returns g c =
    let f = g.T.Encoded.encoding in
    let all = take_all c.loop-item.item-index c.args.items.now c.loop-item-test.false in
    record {
      answer = c.loop-item.invariant.0 ∙ ap (λ t. c.args.at + length (flat_map f t)) all;
      after = c.loop-item.invariant.1 ∙ ap (λ t. put_at c.args.out.now c.args.at (flat_map f t)) all;
    }

pub encoded-requires : goal.encoded-requires
encoded-requires g c = omega (arith, c.requires.small)

pub shared_whole_as_slice-put : goal.shared_whole_as_slice-put
shared_whole_as_slice-put g c = omega (arith, c.requires.small)
