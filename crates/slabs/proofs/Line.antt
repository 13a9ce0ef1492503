-- How far one edge stands above another is a line in x.
-- Assumes nothing.
use Rattle.std.proofs.Common.{◌≡◌, ℕ, ◌+◌, List, [], ◌∷◌, ℤ, pos, negsuc, ◌+ℤ◌, ◌-ℤ◌, ◌*ℤ◌, neg_ℤ, ◌≤ℤ◌, ◌<ℤ◌, sym, refl, subst, inl, inr, ⊎_elim}
use Rattle.algebra.specs.Expressions.{Expression, unknown, number, ◌⊕◌, ◌⊖◌, ◌⊗◌, minus}
use Rattle.algebra.specs.Certificates.{◌≼◌, ◌≺◌, ◌≈◌, given, ◌⊞◌, ◌⊠◌, multiple}
use Rattle.algebra.proofs.Identity.{ring}
use Rattle.algebra.proofs.Order.{≤ℤ-cases}
use Rattle.algebra.proofs.Sign.{shows, shows_over}
use Rattle.records.specs.declared.raw.EdgeRecord.{EdgeRecord}
use Rattle.geometry.specs.Fraction.{difference}
use Rattle.geometry.specs.Edge.{slope}
use Rattle.geometry.specs.Conflict.{rise}
use Rattle.slabs.proofs.Signs.{Above, Rises}

-- how much steeper e is than f, by sign
abbrev pub tilt : EdgeRecord → EdgeRecord → ℤ
tilt e f = difference (slope e) (slope f)

-- e is the higher one at x, or as high and the steeper one
abbrev pub Higher : ℤ → EdgeRecord → EdgeRecord → Type 0
Higher x e f = Above (rise e f x) (tilt e f)

-- ---- the same as expressions: the first edge has the unknowns 0 to 3, the second 4 to 7
abbrev fields : EdgeRecord → EdgeRecord → List ℤ → List ℤ
fields e f rest = e.x1 ∷ e.y1 ∷ e.x2 ∷ e.y2 ∷ f.x1 ∷ f.y1 ∷ f.x2 ∷ f.y2 ∷ rest

abbrev height_of : ℕ → Expression → Expression
height_of i x = unknown (1 + i) ⊗ (unknown (2 + i) ⊖ unknown i) ⊕ (unknown (3 + i) ⊖ unknown (1 + i)) ⊗ (x ⊖ unknown i)

abbrev width_of : ℕ → Expression
width_of i = unknown (2 + i) ⊖ unknown i

abbrev rise_of : ℕ → ℕ → Expression → Expression
rise_of i j x = height_of i x ⊗ width_of j ⊖ height_of j x ⊗ width_of i

abbrev tilt_of : ℕ → ℕ → Expression
tilt_of i j = (unknown (3 + i) ⊖ unknown (1 + i)) ⊗ width_of j ⊖ (unknown (3 + j) ⊖ unknown (1 + j)) ⊗ width_of i

pub rise_moves : (e f : EdgeRecord) (a b : ℤ) → rise e f b ≡ rise e f a +ℤ tilt e f *ℤ (b -ℤ a)
rise_moves e f a b =
    let from = unknown 8 in
    let to = unknown 9 in
    ring (fields e f (a ∷ b ∷ [])) (rise_of 0 4 to) (rise_of 0 4 from ⊕ tilt_of 0 4 ⊗ (to ⊖ from)) refl

pub rise_turned : (e f : EdgeRecord) (x : ℤ) → rise f e x ≡ neg_ℤ (rise e f x)
rise_turned e f x = ring (fields e f (x ∷ [])) (rise_of 4 0 (unknown 8)) (minus (rise_of 0 4 (unknown 8))) refl

-- ---- the line d + s (x − l), on the stretch from l to r
module _ (l r x d s : ℤ) where
  abbrev from : Expression
  from = unknown 0

  abbrev to : Expression
  to = unknown 1

  abbrev here : Expression
  here = unknown 2

  abbrev start : Expression
  start = unknown 3

  abbrev step : Expression
  step = unknown 4

  abbrev at : Expression → Expression
  at place = start ⊕ step ⊗ (place ⊖ from)

  abbrev none : Expression
  none = number (pos 0)

  abbrev values : List ℤ
  values = l ∷ r ∷ x ∷ d ∷ s ∷ []

  positive_between : pos 0 <ℤ d → pos 0 ≤ℤ (d +ℤ s *ℤ (r -ℤ l)) → l ≤ℤ x → x <ℤ r → pos 0 <ℤ (d +ℤ s *ℤ (x -ℤ l))
  positive_between p q h k = shows_over values ((none ≺ start) ∷ (none ≼ at to) ∷ (from ≼ here) ∷ (here ≺ to) ∷ []) (none ≺ at here)
      (given 2 ⊞ given 3) (given 0 ⊠ given 3 ⊞ given 1 ⊠ given 2) (p, (q, (h, (k, tt)))) refl

  positive_step : d ≡ pos 0 → pos 0 <ℤ (d +ℤ s *ℤ (r -ℤ l)) → l ≤ℤ x → x <ℤ r → pos 0 <ℤ s
  positive_step p q h k = shows_over values ((start ≈ none) ∷ (none ≺ at to) ∷ (from ≼ here) ∷ (here ≺ to) ∷ []) (none ≺ step)
      (given 2 ⊞ given 3) (given 1 ⊞ given 0) (p, (q, (h, (k, tt)))) refl

  positive_later : d ≡ pos 0 → pos 0 <ℤ s → l <ℤ x → pos 0 <ℤ (d +ℤ s *ℤ (x -ℤ l))
  positive_later p q h = shows values ((start ≈ none) ∷ (none ≺ step) ∷ (from ≺ here) ∷ []) (none ≺ at here)
      (given 1 ⊠ given 2 ⊞ multiple (number (negsuc 0)) 0) (p, (q, (h, tt))) refl

  zero_there : d ≡ pos 0 → l ≡ x → d +ℤ s *ℤ (x -ℤ l) ≡ pos 0
  zero_there p q = shows values ((start ≈ none) ∷ (from ≈ here) ∷ []) (at here ≈ none) (given 0 ⊞ multiple (minus step) 1) (p, (q, tt)) refl

  above_between : Rises d (d +ℤ s *ℤ (r -ℤ l)) → l ≤ℤ x → x <ℤ r → Above (d +ℤ s *ℤ (x -ℤ l)) s
  above_between side h k = ⊎_elim (λ p. inl (positive_between p.0 p.1 h k))
      (λ p. let up = positive_step p.0 p.1 h k in ⊎_elim (λ m. inl (positive_later p.0 up m)) (λ m. inr (zero_there p.0 m, up)) (≤ℤ-cases h))
      side

-- An edge that does not fall below another from l to r is the higher one at every x from l up to r.
pub higher_between : (e f : EdgeRecord) (l r x : ℤ) → Rises (rise e f l) (rise e f r) → l ≤ℤ x → x <ℤ r → Higher x e f
higher_between e f l r x side h k =
    subst (λ z. Above z (tilt e f)) (sym (rise_moves e f l x))
    (above_between l r x (rise e f l) (tilt e f) (subst (λ z. Rises (rise e f l) z) (rise_moves e f l r) side) h k)
