-- What a comparison of two coordinates tells of them.
use Rattle.std.proofs.Common.{◌≡◌, true, false, ℤ, ◌<ℤ◌, sym, arith, Ordering, Less, Equal, Greater, int_cmp, is_ge}
use Rattle.std.proofs.lemmas.Bool.{true≢false}
use Rattle.std.proofs.lemmas.Int.{ints}
use Rattle.std.specs.Ordering.{MatchOrdering}
use Rattle.std.specs.Cmp.{int_ranks}
use lib.Signed.{lt_z}

below_by : (a b : ℤ) (r : Ordering) → MatchOrdering r (a <ℤ b) (a ≡ b) (b <ℤ a) → is_ge r ≡ false → a <ℤ b
below_by a b Less m h = m
below_by a b Equal m h = absurd (true≢false h)
below_by a b Greater m h = absurd (true≢false h)

pub below : (a b : ℤ) → is_ge (int_cmp a b) ≡ false → a <ℤ b
below a b h = below_by a b (int_cmp a b) (int_ranks a b) h

not_below_by : (a b : ℤ) (r : Ordering) → MatchOrdering r (a <ℤ b) (a ≡ b) (b <ℤ a) → is_ge r ≡ true → lt_z a b ≡ true → ⊥
not_below_by a b Less m h less = true≢false (sym h)
not_below_by a b Equal m h less = omega (arith, ints)
not_below_by a b Greater m h less = omega (arith, ints)

pub not_below : (a b : ℤ) → is_ge (int_cmp a b) ≡ true → lt_z a b ≡ true → ⊥
not_below a b h less = not_below_by a b (int_cmp a b) (int_ranks a b) h less
