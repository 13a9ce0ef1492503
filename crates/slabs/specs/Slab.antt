-- The order of the edges of a slab: what two edges that do not conflict keep over every x that both cover.
use Rattle.std.specs.Prelude.{◌≡◌, true, false, ℤ, ◌<ℤ◌, ◌≢◌}
use Rattle.records.specs.declared.raw.EdgeRecord.{EdgeRecord}
use Rattle.geometry.specs.Fraction.{level}
use Rattle.geometry.specs.Edge.{covers, height, slope, lies_under}
use Rattle.geometry.specs.Conflict.{conflict}

-- Two edges that both cover w, and do not conflict.
pub record Neighbours (w : ℤ) (e f : EdgeRecord) : Type 0 where
  pub e_wide : e.x1 <ℤ e.x2
  pub f_wide : f.x1 <ℤ f.x2
  pub e_covers : covers e w ≡ true
  pub f_covers : covers f w ≡ true
  pub apart : conflict e f ≡ false

-- They keep their order at every x that both cover.
abbrev pub OrderIsKept : Type 0
OrderIsKept =
    (w x : ℤ) (e f : EdgeRecord) → Neighbours w e f → Neighbours x e f → lies_under w e f ≡ lies_under x e f

-- Equal height and equal slope at one covered x is impossible.
abbrev pub NeverLevel : Type 0
NeverLevel =
    (w : ℤ) (e f : EdgeRecord) → Neighbours w e f → level (height e w) (height f w) ≡ true → level (slope e) (slope f) ≢ true
