-- Exact fractions with a positive denominator, compared by cross multiplication.
use Rattle.std.specs.Prelude.{Bool, ◌&&◌, ℤ, pos, ◌-ℤ◌, ◌*ℤ◌, int_le, int_lt}

pub record Ratio : Type 0 where
  pub over : ℤ
  pub under : ℤ

-- The whole number y as a fraction.
abbrev pub whole : ℤ → Ratio
whole y = record { over = y; under = pos 1 }

-- The numerator of p − q over the product of both denominators: its sign is that of p − q.
abbrev pub difference : Ratio → Ratio → ℤ
difference p q = (p.over *ℤ q.under) -ℤ (q.over *ℤ p.under)

-- p < q, p ≤ q and p = q.
abbrev pub less : Ratio → Ratio → Bool
less p q = int_lt (p.over *ℤ q.under) (q.over *ℤ p.under)

abbrev pub at_most : Ratio → Ratio → Bool
at_most p q = int_le (p.over *ℤ q.under) (q.over *ℤ p.under)

abbrev pub level : Ratio → Ratio → Bool
level p q = at_most p q && at_most q p
