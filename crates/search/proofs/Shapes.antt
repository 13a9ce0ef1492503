-- Judging cut down to its shapes: any numbers are fit, and every node is passed by. How a rose is drawn asks no more of its
-- nodes than their shapes.
use Rattle.std.proofs.Common.{true, arith}
use Rattle.std.proofs.lemmas.Option.{none-some}
use Rattle.search.specs.Judging.{Judging, nothing}
use Rattle.search.specs.Laws.{JudgesWell}

abbrev pub shapes_in : {Q : Type 0} → Judging Q → Judging Q
shapes_in judging =
    record { is_within_bounds = judging.is_within_bounds; shape_of = judging.shape_of; is_fit = λ kind numbers. true; judge = λ q kind numbers. nothing }

pub shapes_judge_well : {Q : Type 0} (judging : Judging Q) → JudgesWell judging → JudgesWell (shapes_in judging)
shapes_judge_well judging well =
    record {
      few_numbers = well.few_numbers;
      few_successors = well.few_successors;
      few_ways = λ q kind numbers shape h. omega arith;
      ways_in_shape = λ q kind numbers shape h. tt;
      small_emissions = λ q kind numbers shape number h e. absurd (none-some number e);
    }
