-- The least and the greatest of some integers.
use Rattle.std.proofs.Common.{◌≡◌, true, false, List, [], ◌∷◌, map, ℤ, pos, refl, arith}
use lib.Signed.{le_z, lt_z}
use Rattle.std.specs.Int.{int_min, int_max}
use Rattle.std.specs.List.{AllByRecursion}
use Rattle.std.proofs.lemmas.Int.{ints}
use Rattle.std.proofs.lemmas.Bool.{cond_both}
use Rattle.site_figure.specs.Figure.{least_from, least, greatest_from, greatest}

pub int_le_refl : (a : ℤ) → le_z a a ≡ true
int_le_refl a = grind (arith, ints)

pub int_le_trans : (a b c : ℤ) → le_z a b ≡ true → le_z b c ≡ true → le_z a c ≡ true
int_le_trans a b c h k = grind (arith, ints)

int_lt_int_le : (a b : ℤ) → lt_z a b ≡ true → le_z a b ≡ true
int_lt_int_le a b h = grind (arith, ints)

not_lt_z : (a b : ℤ) → lt_z a b ≡ false → le_z b a ≡ true
not_lt_z a b h = grind (arith, ints)

min_left : (a b : ℤ) → le_z (int_min a b) a ≡ true
min_left a b = cond_both (lt_z b a) b a (λ z. le_z z a ≡ true) (λ h. int_lt_int_le b a h) (λ h. int_le_refl a)

min_right : (a b : ℤ) → le_z (int_min a b) b ≡ true
min_right a b = cond_both (lt_z b a) b a (λ z. le_z z b ≡ true) (λ h. int_le_refl b) (λ h. not_lt_z b a h)

max_left : (a b : ℤ) → le_z a (int_max a b) ≡ true
max_left a b = cond_both (lt_z b a) a b (λ z. le_z a z ≡ true) (λ h. int_le_refl a) (λ h. not_lt_z b a h)

max_right : (a b : ℤ) → le_z b (int_max a b) ≡ true
max_right a b = cond_both (lt_z b a) a b (λ z. le_z b z ≡ true) (λ h. int_lt_int_le b a h) (λ h. int_le_refl b)

-- the least is at most the first and each of the others
least_below_first : (z : ℤ) (ws : List ℤ) → le_z (least_from z ws) z ≡ true
least_below_first z [] = int_le_refl z
least_below_first z (w ∷ ws) = int_le_trans _ (int_min z w) z (least_below_first (int_min z w) ws) (min_left z w)

least_below_others : (z : ℤ) (ws : List ℤ) → AllByRecursion (λ w. le_z (least_from z ws) w ≡ true) ws
least_below_others z [] = tt
least_below_others z (w ∷ ws) =
    (int_le_trans _ (int_min z w) w (least_below_first (int_min z w) ws) (min_right z w), least_below_others (int_min z w) ws)

pub least_below : (zs : List ℤ) → AllByRecursion (λ z. le_z (least zs) z ≡ true) zs
least_below [] = tt
least_below (z ∷ zs) = (least_below_first z zs, least_below_others z zs)

greatest_above_first : (z : ℤ) (ws : List ℤ) → le_z z (greatest_from z ws) ≡ true
greatest_above_first z [] = int_le_refl z
greatest_above_first z (w ∷ ws) = int_le_trans z (int_max z w) _ (max_left z w) (greatest_above_first (int_max z w) ws)

greatest_above_others : (z : ℤ) (ws : List ℤ) → AllByRecursion (λ w. le_z w (greatest_from z ws) ≡ true) ws
greatest_above_others z [] = tt
greatest_above_others z (w ∷ ws) =
    (int_le_trans w (int_max z w) _ (max_right z w) (greatest_above_first (int_max z w) ws), greatest_above_others (int_max z w) ws)

pub greatest_above : (zs : List ℤ) → AllByRecursion (λ z. le_z z (greatest zs) ≡ true) zs
greatest_above [] = tt
greatest_above (z ∷ zs) = (greatest_above_first z zs, greatest_above_others z zs)

pub least_below_greatest : (zs : List ℤ) → le_z (least zs) (greatest zs) ≡ true
least_below_greatest [] = refl
least_below_greatest (z ∷ zs) =
    int_le_trans _ z _ (least_below_first z zs) (greatest_above_first z zs)

-- what is true of 0 and of each is true of the least and the greatest
module _ (P : ℤ → Type 0) where
  least_from_one : (z : ℤ) (ws : List ℤ) → P z → AllByRecursion P ws → P (least_from z ws)
  least_from_one z [] h hs = h
  least_from_one z (w ∷ ws) h hs = least_from_one (int_min z w) ws (cond_both (lt_z w z) w z P (λ _. hs.0) (λ _. h)) hs.1

  pub least_one : P (pos 0) → (zs : List ℤ) → AllByRecursion P zs → P (least zs)
  least_one none [] hs = none
  least_one none (z ∷ zs) hs = least_from_one z zs hs.0 hs.1

  greatest_from_one : (z : ℤ) (ws : List ℤ) → P z → AllByRecursion P ws → P (greatest_from z ws)
  greatest_from_one z [] h hs = h
  greatest_from_one z (w ∷ ws) h hs = greatest_from_one (int_max z w) ws (cond_both (lt_z w z) z w P (λ _. h) (λ _. hs.0)) hs.1

  pub greatest_one : P (pos 0) → (zs : List ℤ) → AllByRecursion P zs → P (greatest zs)
  greatest_one none [] hs = none
  greatest_one none (z ∷ zs) hs = greatest_from_one z zs hs.0 hs.1

pub all_unmap : {X Y : Type 0} (P : Y → Type 0) (f : X → Y) (xs : List X) → AllByRecursion P (map f xs) → AllByRecursion (λ x. P (f x)) xs
all_unmap P f [] h = tt
all_unmap P f (x ∷ xs) h = (h.0, all_unmap P f xs h.1)
