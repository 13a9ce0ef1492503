-- Which points are questions.
use Rattle.std.specs.Prelude.{ℕ, Bool, cond, ◌&&◌, ℤ, pos, Some, None, Ok, Err, Option, Result}
use Rattle.refusal.specs.declared.Refusal.{Refusal}
use Rattle.refusal.specs.declared.Refusal.TheVariants.{QuestionOutOfBounds}
use Rattle.records.specs.declared.raw.Point.{Point}
use Rattle.records.specs.Range.{is_coordinate}

abbrev pub is_within_bounds : Point → Bool
is_within_bounds p = is_coordinate p.x && is_coordinate p.y

abbrev pub question_refusal : Point → Option Refusal
question_refusal p = cond (is_within_bounds p) None (Some QuestionOutOfBounds)

-- The zone in an answer, as an integer.
abbrev pub zone_in : Result ℕ Refusal → Result ℤ Refusal
zone_in (Ok zone) = Ok (pos zone)
zone_in (Err refusal) = Err refusal
