use Rattle.std.proofs.Common.{[], refl, ◌∙◌}
use Rattle.search.specs.Node.{Node}
use Rattle.office.proofs.Stored.{never_refused, next, all_stored}
use Rattle.office.proofs.digests.store_digests.Goals as goal

abbrev blank : Node
blank = record { kind = 0; numbers = []; successors = [] }

pub loop-place-init : goal.loop-place-init
loop-place-init g c = refl

pub unreachable-requires : goal.unreachable-requires
unreachable-requires g c =
    never_refused g.C.Chart.judging g.H.Hash.digest c.args.counted.now c.loop-place.place c.loop-place-test.true c.requires blank c.loop-place.counted c.loop-place.invariant c.in_default.field-0 c.in_default.ensures

pub loop-place-preserved : goal.loop-place-preserved
loop-place-preserved g c =
    next g.C.Chart.judging g.H.Hash.digest c.args.counted.now c.loop-place.place c.loop-place-test.true c.requires blank c.loop-place.counted c.loop-place.invariant _ c.in-Ok.digest c.in-Ok.ensures

pub returns : goal.returns
returns g c =
    c.loop-place.invariant
    ∙ all_stored g.C.Chart.judging g.H.Hash.digest c.args.counted.now c.loop-place.place c.loop-place-test.false
