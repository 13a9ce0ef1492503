use Rattle.blake2s.proofs.RoundSteps.{rounds_none}
use Rattle.blake2s.proofs.rounds.ten_rounds.Goals as goal

pub returns : goal.returns
returns c =
    let v = c.args.v.now in
    let e0 = rounds_none c.args.block.now v in
    let e1 = c.round.ensures v e0 in
    let e2 = c.round-2.ensures v e1 in
    let e3 = c.round-3.ensures v e2 in
    let e4 = c.round-4.ensures v e3 in
    let e5 = c.round-5.ensures v e4 in
    let e6 = c.round-6.ensures v e5 in
    let e7 = c.round-7.ensures v e6 in
    let e8 = c.round-8.ensures v e7 in
    let e9 = c.round-9.ensures v e8 in
    c.round-10.ensures v e9
