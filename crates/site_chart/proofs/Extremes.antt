-- The least and the greatest of some integers, taken two at a time.
use Rattle.std.proofs.Common.{◌≡◌, List, [], ◌∷◌, unwrap_or, ℤ, pos, refl, ap, ◌∙◌, arith}
use Rattle.std.specs.List.{fold, reduce}
use Rattle.std.specs.Ordering.{int_cmp, min_by_ordering, max_by_ordering}
use Rattle.std.specs.Int.{int_min, int_max}
use Rattle.std.proofs.lemmas.Int.{ints}
use Rattle.site_figure.specs.Figure.{least_from, least, greatest_from, greatest}

abbrev pub lesser : ℤ → ℤ → ℤ
lesser p z = min_by_ordering (int_cmp p z) p z

abbrev pub greater : ℤ → ℤ → ℤ
greater p z = max_by_ordering (int_cmp p z) p z

lesser_is : (p z : ℤ) → lesser p z ≡ int_min p z
lesser_is p z = grind (arith, ints)

greater_is : (p z : ℤ) → greater p z ≡ int_max p z
greater_is p z = grind (arith, ints)

least_folded : (z : ℤ) (zs : List ℤ) → fold lesser z zs ≡ least_from z zs
least_folded z [] = refl
least_folded z (w ∷ ws) = least_folded (lesser z w) ws ∙ ap (λ (t : ℤ). least_from t ws) (lesser_is z w)

greatest_folded : (z : ℤ) (zs : List ℤ) → fold greater z zs ≡ greatest_from z zs
greatest_folded z [] = refl
greatest_folded z (w ∷ ws) = greatest_folded (greater z w) ws ∙ ap (λ (t : ℤ). greatest_from t ws) (greater_is z w)

pub least_reduced : (zs : List ℤ) → unwrap_or (reduce lesser zs) (pos 0) ≡ least zs
least_reduced [] = refl
least_reduced (z ∷ zs) = least_folded z zs

pub greatest_reduced : (zs : List ℤ) → unwrap_or (reduce greater zs) (pos 0) ≡ greatest zs
greatest_reduced [] = refl
greatest_reduced (z ∷ zs) = greatest_folded z zs
