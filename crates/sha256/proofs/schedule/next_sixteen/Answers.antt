use Rattle.std.proofs.Common.{ℕ, ◌+◌, List, get_or, ap, arith}
use Rattle.sha256.proofs.ScheduleWords.{expanded_is}
use Rattle.sha256.proofs.schedule.next_sixteen.Goals as goal

pub returns : goal.returns
returns c =
    λ block t within before.
    let own0 = ap (λ (xs : List ℕ). get_or xs 0 0) before in
    let own1 = ap (λ (xs : List ℕ). get_or xs 1 0) before in
    let own2 = ap (λ (xs : List ℕ). get_or xs 2 0) before in
    let own3 = ap (λ (xs : List ℕ). get_or xs 3 0) before in
    let own4 = ap (λ (xs : List ℕ). get_or xs 4 0) before in
    let own5 = ap (λ (xs : List ℕ). get_or xs 5 0) before in
    let own6 = ap (λ (xs : List ℕ). get_or xs 6 0) before in
    let own7 = ap (λ (xs : List ℕ). get_or xs 7 0) before in
    let own8 = ap (λ (xs : List ℕ). get_or xs 8 0) before in
    let own9 = ap (λ (xs : List ℕ). get_or xs 9 0) before in
    let own10 = ap (λ (xs : List ℕ). get_or xs 10 0) before in
    let own11 = ap (λ (xs : List ℕ). get_or xs 11 0) before in
    let own12 = ap (λ (xs : List ℕ). get_or xs 12 0) before in
    let own13 = ap (λ (xs : List ℕ). get_or xs 13 0) before in
    let own14 = ap (λ (xs : List ℕ). get_or xs 14 0) before in
    let own15 = ap (λ (xs : List ℕ). get_or xs 15 0) before in
    let e0 =
    expanded_is block (t + 16) (t + 14) (t + 9) (t + 1) t _ _ _ _ _ (omega arith) (omega arith) (omega arith) (omega arith) (omega arith) own14 own9 own1 own0 c.expanded-x0.ensures in
    let e1 =
    expanded_is block (t + 16 + 1) (t + 15) (t + 10) (t + 2) (t + 1) _ _ _ _ _ (omega arith) (omega arith) (omega arith) (omega arith) (omega arith) own15 own10 own2 own1 c.expanded-x1.ensures in
    let e2 =
    expanded_is block (t + 16 + 2) (t + 16) (t + 11) (t + 3) (t + 2) _ _ _ _ _ (omega arith) (omega arith) (omega arith) (omega arith) (omega arith) e0 own11 own3 own2 c.expanded-x2.ensures in
    let e3 =
    expanded_is block (t + 16 + 3) (t + 16 + 1) (t + 12) (t + 4) (t + 3) _ _ _ _ _ (omega arith) (omega arith) (omega arith) (omega arith) (omega arith) e1 own12 own4 own3 c.expanded-x3.ensures in
    let e4 =
    expanded_is block (t + 16 + 4) (t + 16 + 2) (t + 13) (t + 5) (t + 4) _ _ _ _ _ (omega arith) (omega arith) (omega arith) (omega arith) (omega arith) e2 own13 own5 own4 c.expanded-x4.ensures in
    let e5 =
    expanded_is block (t + 16 + 5) (t + 16 + 3) (t + 14) (t + 6) (t + 5) _ _ _ _ _ (omega arith) (omega arith) (omega arith) (omega arith) (omega arith) e3 own14 own6 own5 c.expanded-x5.ensures in
    let e6 =
    expanded_is block (t + 16 + 6) (t + 16 + 4) (t + 15) (t + 7) (t + 6) _ _ _ _ _ (omega arith) (omega arith) (omega arith) (omega arith) (omega arith) e4 own15 own7 own6 c.expanded-x6.ensures in
    let e7 =
    expanded_is block (t + 16 + 7) (t + 16 + 5) (t + 16) (t + 8) (t + 7) _ _ _ _ _ (omega arith) (omega arith) (omega arith) (omega arith) (omega arith) e5 e0 own8 own7 c.expanded-x7.ensures in
    let e8 =
    expanded_is block (t + 16 + 8) (t + 16 + 6) (t + 16 + 1) (t + 9) (t + 8) _ _ _ _ _ (omega arith) (omega arith) (omega arith) (omega arith) (omega arith) e6 e1 own9 own8 c.expanded-x8.ensures in
    let e9 =
    expanded_is block (t + 16 + 9) (t + 16 + 7) (t + 16 + 2) (t + 10) (t + 9) _ _ _ _ _ (omega arith) (omega arith) (omega arith) (omega arith) (omega arith) e7 e2 own10 own9 c.expanded-x9.ensures in
    let e10 =
    expanded_is block (t + 16 + 10) (t + 16 + 8) (t + 16 + 3) (t + 11) (t + 10) _ _ _ _ _ (omega arith) (omega arith) (omega arith) (omega arith) (omega arith) e8 e3 own11 own10 c.expanded-x10.ensures in
    let e11 =
    expanded_is block (t + 16 + 11) (t + 16 + 9) (t + 16 + 4) (t + 12) (t + 11) _ _ _ _ _ (omega arith) (omega arith) (omega arith) (omega arith) (omega arith) e9 e4 own12 own11 c.expanded-x11.ensures in
    let e12 =
    expanded_is block (t + 16 + 12) (t + 16 + 10) (t + 16 + 5) (t + 13) (t + 12) _ _ _ _ _ (omega arith) (omega arith) (omega arith) (omega arith) (omega arith) e10 e5 own13 own12 c.expanded-x12.ensures in
    let e13 =
    expanded_is block (t + 16 + 13) (t + 16 + 11) (t + 16 + 6) (t + 14) (t + 13) _ _ _ _ _ (omega arith) (omega arith) (omega arith) (omega arith) (omega arith) e11 e6 own14 own13 c.expanded-x13.ensures in
    let e14 =
    expanded_is block (t + 16 + 14) (t + 16 + 12) (t + 16 + 7) (t + 15) (t + 14) _ _ _ _ _ (omega arith) (omega arith) (omega arith) (omega arith) (omega arith) e12 e7 own15 own14 c.expanded-x14.ensures in
    let e15 =
    expanded_is block (t + 16 + 15) (t + 16 + 13) (t + 16 + 8) (t + 16) (t + 15) _ _ _ _ _ (omega arith) (omega arith) (omega arith) (omega arith) (omega arith) e13 e8 e0 own15 c.expanded-x15.ensures in
    cc
