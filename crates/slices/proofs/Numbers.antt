-- The order of unsigned numbers.
use Rattle.std.proofs.Common.{ℕ, ◌<◌, ◌≤◌, leb, List, arith}
use Rattle.std.proofs.lemmas.Bool.{leb-true, leb-false, le-leb}
use Rattle.slices.specs.Order.{IsTotal, IsTransitive, TiesAreEqual}

pub leb_total : IsTotal leb
leb_total x y e = let h : y < x = leb-false x y e in le-leb y x (omega arith)

pub leb_transitive : IsTransitive leb
leb_transitive x y z e f =
    let h : x ≤ y = leb-true x y e in let k : y ≤ z = leb-true y z f in le-leb x z (omega arith)

pub leb_ties : (xs : List ℕ) → TiesAreEqual leb xs
leb_ties xs x y hx hy e f = let h : x ≤ y = leb-true x y e in let k : y ≤ x = leb-true y x f in omega arith
