-- The topmost edge by turns: what a loop over the records has found so far.
-- Assumes nothing.
use Rattle.std.proofs.Common.{◌≡◌, ℕ, ◌+◌, ◌<◌, Bool, true, false, cond, List, [], ◌∷◌, ◌++◌, length, get_or, take, ℤ, Option, refl, ap, ◌∙◌}
use Rattle.std.proofs.lemmas.List.Elements.{filter_more}
use Rattle.std.proofs.lemmas.List.{take_more}
use Rattle.records.specs.declared.raw.EdgeRecord.{EdgeRecord}
use Rattle.slabs.specs.Topmost.{is_under, under, higher, highest}

pub highest_append : (x : ℤ) (best : Option EdgeRecord) (front back : List EdgeRecord) → highest x best (front ++ back) ≡ highest x (highest x best front) back
highest_append x best [] back = refl
highest_append x best (e ∷ front) back = highest_append x (higher x best e) front back

pub highest_more : (x : ℤ) (best : Option EdgeRecord) (records : List EdgeRecord) (i : ℕ) (d : EdgeRecord) → i < length records → highest x best (take (i + 1) records) ≡ higher x (highest x best (take i records)) (get_or records i d)
highest_more x best records i d l = ap (highest x best) (take_more records i d l) ∙ highest_append x best (take i records) (get_or records i d ∷ [])

-- one more record, which counts if it is under the point
pub highest_under_more : (px py : ℤ) (best : Option EdgeRecord) (records : List EdgeRecord) (i : ℕ) (d : EdgeRecord) → i < length records
    → highest px best (under px py (take (i + 1) records)) ≡ cond (is_under px py (get_or records i d)) (higher px (highest px best (under px py (take i records))) (get_or records i d)) (highest px best (under px py (take i records)))
highest_under_more px py best records i d l =
    ap (highest px best) (filter_more (is_under px py) records i d l)
    ∙ highest_append px best (under px py (take i records)) (cond (is_under px py (get_or records i d)) (get_or records i d ∷ []) [])
    ∙ by (is_under px py (get_or records i d))
  where
    so_far : Option EdgeRecord
    so_far = highest px best (under px py (take i records))

    by : (t : Bool) → highest px so_far (cond t (get_or records i d ∷ []) []) ≡ cond t (higher px so_far (get_or records i d)) so_far
    by true = refl
    by false = refl
