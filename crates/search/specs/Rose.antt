-- Roses: the trees of which figures are made, before alike nodes are shared.
use Rattle.std.specs.Prelude.{ℕ, suc, max, List, ℤ}

mutual
  pub data Rose : Type 0 where
    grown : ℕ → List ℤ → Roses → Rose

  pub data Roses : Type 0 where
    end : Roses
    more : Rose → Roses → Roses

-- Of a kind, with its numbers, and with no successor, two or three.
abbrev pub leaf : ℕ → List ℤ → Rose
leaf kind numbers = grown kind numbers end

abbrev pub two : ℕ → List ℤ → Rose → Rose → Rose
two kind numbers a b = grown kind numbers (more a (more b end))

abbrev pub three : ℕ → List ℤ → Rose → Rose → Rose → Rose
three kind numbers a b c = grown kind numbers (more a (more b (more c end)))

abbrev pub how_many : Roses → ℕ
how_many end = 0
how_many (more r rs) = suc (how_many rs)

-- How many levels a rose has; a leaf has one.
abbrev mutual
  pub levels : Rose → ℕ
  levels (grown kind numbers rs) = suc (levels_of_each rs)

  pub levels_of_each : Roses → ℕ
  levels_of_each end = 0
  levels_of_each (more r rs) = max (levels r) (levels_of_each rs)
