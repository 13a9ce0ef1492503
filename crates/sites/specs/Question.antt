-- The sites in a rectangle.
use Rattle.std.specs.Prelude.{ℕ, Bool, cond, ◌&&◌, List, [], ◌∷◌, map, ℤ, Some, None, Option, int_le, nat_le, unsigned_abs}
use Rattle.refusal.specs.declared.Refusal.{Refusal}
use Rattle.refusal.specs.declared.Refusal.TheVariants.{QuestionOutOfBounds}
use Rattle.records.specs.declared.raw.SiteRecord.{SiteRecord}
use Rattle.records.specs.declared.raw.Rectangle.{Rectangle}
use Rattle.records.specs.Range.{is_coordinate, within}
use Rattle.slices.specs.Order.{sorted}

-- Both limits are coordinates, and they do not run backward.
abbrev pub runs_forward : ℤ → ℤ → Bool
runs_forward low high = is_coordinate low && is_coordinate high && int_le low high

abbrev pub is_within_bounds : Rectangle → Bool
is_within_bounds q = runs_forward q.west q.east && runs_forward q.south q.north

abbrev pub question_refusal : Rectangle → Option Refusal
question_refusal q = cond (is_within_bounds q) None (Some QuestionOutOfBounds)

-- The site is in the rectangle, sides included.
abbrev pub is_inside : Rectangle → SiteRecord → Bool
is_inside q r = within q.west q.east r.x && within q.south q.north r.y

abbrev pub inside : Rectangle → List SiteRecord → List SiteRecord
inside q [] = []
inside q (r ∷ rs) = cond (is_inside q r) (r ∷ inside q rs) (inside q rs)

-- The rising list of the numbers of all sites in the rectangle.
abbrev pub sites_in : List SiteRecord → Rectangle → List ℕ
sites_in rs q = sorted nat_le (map (λ r. unsigned_abs r.number) (inside q rs))
