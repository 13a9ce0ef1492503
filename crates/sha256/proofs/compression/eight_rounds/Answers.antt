use Rattle.std.proofs.Common.{ℕ, List, get_or, ap}
use Rattle.sha256.proofs.RoundSteps.{round_first, round_more}
use Rattle.sha256.proofs.compression.eight_rounds.Goals as goal

pub returns : goal.returns
returns c =
    λ h ws before words.
    let e1 = round_first h ws c.args.t before (ap (λ (xs : List ℕ). get_or xs 0 0) words) c.round-v1.ensures in
    let e2 = round_more h ws c.args.t 1 e1 (ap (λ (xs : List ℕ). get_or xs 1 0) words) c.round-v2.ensures in
    let e3 = round_more h ws c.args.t 2 e2 (ap (λ (xs : List ℕ). get_or xs 2 0) words) c.round-v3.ensures in
    let e4 = round_more h ws c.args.t 3 e3 (ap (λ (xs : List ℕ). get_or xs 3 0) words) c.round-v4.ensures in
    let e5 = round_more h ws c.args.t 4 e4 (ap (λ (xs : List ℕ). get_or xs 4 0) words) c.round-v5.ensures in
    let e6 = round_more h ws c.args.t 5 e5 (ap (λ (xs : List ℕ). get_or xs 5 0) words) c.round-v6.ensures in
    let e7 = round_more h ws c.args.t 6 e6 (ap (λ (xs : List ℕ). get_or xs 6 0) words) c.round-v7.ensures in
    round_more h ws c.args.t 7 e7 (ap (λ (xs : List ℕ). get_or xs 7 0) words) c.round.ensures
