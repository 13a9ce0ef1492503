-- Conflict does not depend on which of two edges comes first.
-- Assumes nothing.
use Rattle.std.proofs.Common.{◌≡◌, ◌&&◌, ℤ, ap, ◌∙◌, ap₂, arith}
use lib.Signed.{lt_z}
use borrow.Author.Differences.{ints}
use Rattle.std.specs.Int.{int_max, int_min}
use Rattle.std.proofs.lemmas.Int.{int_max_is, int_min_is}
use Rattle.records.specs.declared.raw.EdgeRecord.{EdgeRecord}
use Rattle.geometry.specs.Conflict.{rise, touch_or_cross, west_limit, east_limit, conflict}
use Rattle.slabs.proofs.Signs.{touch_or_cross_turned}
use Rattle.slabs.proofs.Line.{rise_turned}

int_max_turned : (a b : ℤ) → int_max a b ≡ int_max b a
int_max_turned a b = omega (arith, ints, int_max_is a b, int_max_is b a)

int_min_turned : (a b : ℤ) → int_min a b ≡ int_min b a
int_min_turned a b = omega (arith, ints, int_min_is a b, int_min_is b a)

pub conflict_symmetric : (e f : EdgeRecord) → conflict f e ≡ conflict e f
conflict_symmetric e f =
    ap₂ (λ l r. lt_z l r && touch_or_cross (rise f e l) (rise f e r)) (int_max_turned f.x1 e.x1) (int_min_turned f.x2 e.x2)
    ∙ ap (λ t. lt_z l r && t) (ap₂ touch_or_cross (rise_turned e f l) (rise_turned e f r) ∙ touch_or_cross_turned (rise e f l) (rise e f r))
  where
    l : ℤ
    l = west_limit e f

    r : ℤ
    r = east_limit e f
