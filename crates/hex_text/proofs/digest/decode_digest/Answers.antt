use Rattle.std.proofs.Common.{◌/◌, ◌<◌, length, ◌∙◌, arith, length-set}
use Rattle.hex_text.proofs.Pairs.{pair_is, pairs_counted}
use Rattle.hex_text.proofs.Digests.{never_missing, no_digest, other_length, byte_set, whole_digest}
use Rattle.hex_text.proofs.digest.decode_digest.Goals as goal

pub returns-in_err-count : goal.returns-in_err-count
returns-in_err-count c = c.from_residual.ensures ∙ no_digest c.args.text.now c.in_err-count.ensures

pub returns-then-count-ne32 : goal.returns-then-count-ne32
returns-then-count-ne32 c = other_length c.args.text.now c.in_ok-count.count c.in_ok-count.ensures c.if-count-ne32.true

pub bounds-bytes-i : goal.bounds-bytes-i
bounds-bytes-i c =
    let size = pairs_counted c.args.text.now c.in_ok-count.count c.in_ok-count.ensures in
    omega (arith, c.loop-i.invariant.1)

pub unreachable-requires : goal.unreachable-requires
unreachable-requires c =
    let size = pairs_counted c.args.text.now c.in_ok-count.count c.in_ok-count.ensures in
    let inside : c.loop-i.i < length c.args.text.now / 2 = omega arith in
    never_missing c.args.text.now c.in_ok-count.count c.loop-i.i c.in_ok-count.ensures (omega arith) (c.in-None.ensures ∙ pair_is c.args.text.now c.as_chunks.result.0.now _ c.loop-i.i c.as_chunks.ensures.front inside)

pub loop-i-preserved : goal.loop-i-preserved
loop-i-preserved c =
    let size = pairs_counted c.args.text.now c.in_ok-count.count c.in_ok-count.ensures in
    let inside : c.loop-i.i < length c.args.text.now / 2 = omega arith in (
      byte_set c.args.text.now c.loop-i.bytes c.in_ok-count.count c.loop-i.i c.in-Some.byte c.in_ok-count.ensures (omega arith) (omega (arith, c.loop-i.invariant.1)) (c.in-Some.ensures ∙ pair_is c.args.text.now c.as_chunks.result.0.now _ c.loop-i.i c.as_chunks.ensures.front inside) c.loop-i.invariant.0,
      simp length-set c.loop-i.invariant.1,
    )

pub returns : goal.returns
returns c =
    let size = pairs_counted c.args.text.now c.in_ok-count.count c.in_ok-count.ensures in
    whole_digest c.args.text.now c.loop-i.bytes c.in_ok-count.count c.loop-i.i c.in_ok-count.ensures (omega arith) (omega arith) c.loop-i.invariant.1 c.loop-i.invariant.0
