-- The worked cases, by computing.
-- Assumes nothing.
use Rattle.std.proofs.Common.{refl}
use lib.Signed.{lt_z_yes}
use Rattle.slabs.specs.Worked.{WorkedCases}

pub worked_cases : WorkedCases
worked_cases = record {
  apart = (lt_z_yes tt, (refl, (refl, tt)), (lt_z_yes tt, (refl, tt), (lt_z_yes tt, tt, tt)));
  crosses = refl;
  crosses_upward = refl;
  on_one_line = refl;
  meets_from_above = refl;
  meets_from_below = refl;
  goes_on = refl;
  would_cross = refl;
  on_an_edge = refl;
  between_two = refl;
  below_all = refl;
  where_they_meet = refl;
  east_of_all = refl;
  west_of_all = refl;
}
