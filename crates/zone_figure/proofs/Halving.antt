-- What halving a list gives: the list again, and few levels.
-- Assumes nothing.
use Rattle.std.proofs.Common.{◌≡◌, ℕ, zero, suc, ◌+◌, ◌-◌, ◌<◌, ◌≤◌, max, List, [], ◌∷◌, ◌++◌, length, get_or, take, drop, refl, ap, ◌∙◌, ap₂, arith, length-drop, length-take}
use Rattle.zone_figure.specs.Halving.{Bush, bare, fork, bush_in, bush_of, IsHalved}
use Rattle.zone_figure.specs.Slab.{edges_before}
use Rattle.zone_figure.specs.Figure.{bounds_before}

abbrev pub elements : {X : Type 0} → Bush X → List X
elements bare = []
elements (fork low x high) = elements low ++ x ∷ elements high

abbrev pub depth : {X : Type 0} → Bush X → ℕ
depth bare = 0
depth (fork low x high) = suc (max (depth low) (depth high))

-- Neither side of a fork has more than half of the elements.
pub record Halves (before : ℕ → ℕ) : Type 0 where
  pub low : (m : ℕ) → before (suc m) + before (suc m) ≤ suc m
  pub high : (m : ℕ) → (m - before (suc m)) + (m - before (suc m)) ≤ suc m

pub edges_halve : Halves edges_before
edges_halve = record { low = λ m. omega arith; high = λ m. omega arith }

pub bounds_halve : Halves bounds_before
bounds_halve = record { low = λ m. omega arith; high = λ m. omega arith }

rejoined : {X : Type 0} (xs : List X) (k : ℕ) (d : X) → k < length xs → take k xs ++ get_or xs k d ∷ drop (suc k) xs ≡ xs
rejoined [] k d l = absurd (omega arith)
rejoined (x ∷ xs) zero d l = refl
rejoined (x ∷ xs) (suc k) d l = ap (λ t. x ∷ t) (rejoined xs k d (omega arith))

elements_in : {X : Type 0} (turns : ℕ) (before : ℕ → ℕ) → Halves before → (xs : List X) → length xs ≤ turns → elements (bush_in turns before xs) ≡ xs
elements_in zero before h [] l = refl
elements_in zero before h (x ∷ xs) l = absurd (omega arith)
elements_in (suc turns) before h [] l = refl
elements_in (suc turns) before h (x ∷ xs) l =
    let k : ℕ = before (suc (length xs)) in
    let inside : k < suc (length xs) = omega (arith, h.low (length xs)) in
    let first = elements_in turns before h (take k (x ∷ xs)) (omega (arith, length-take k (x ∷ xs))) in
    let second = elements_in turns before h (drop (suc k) (x ∷ xs)) (omega (arith, length-drop (suc k) (x ∷ xs))) in
    ap₂ (λ a b. a ++ get_or (x ∷ xs) k x ∷ b) first second ∙ rejoined (x ∷ xs) k x inside

pub elements_of : {X : Type 0} (before : ℕ → ℕ) → Halves before → (xs : List X) → elements (bush_of before xs) ≡ xs
elements_of before h xs = elements_in (length xs) before h xs (omega arith)

-- Fewer elements than this have at most d levels of forks.
abbrev pub reach : ℕ → ℕ
reach zero = 1
reach (suc d) = reach d + reach d

depth_in : {X : Type 0} (d turns : ℕ) (before : ℕ → ℕ) → Halves before → (xs : List X) → length xs < reach d → depth (bush_in turns before xs) ≤ d
depth_in d zero before h xs l = omega arith
depth_in d (suc turns) before h [] l = omega arith
depth_in zero (suc turns) before h (x ∷ xs) l = absurd (omega arith)
depth_in (suc d) (suc turns) before h (x ∷ xs) l =
    let k : ℕ = before (suc (length xs)) in
    let low_half_lem = h.low (length xs) in
    let high_half_lem = h.high (length xs) in
    let first = depth_in d turns before h (take k (x ∷ xs)) (omega (arith, length-take k (x ∷ xs))) in
    let second = depth_in d turns before h (drop (suc k) (x ∷ xs)) (omega (arith, length-drop (suc k) (x ∷ xs))) in
    omega arith

pub depth_of : {X : Type 0} (d : ℕ) (before : ℕ → ℕ) → Halves before → (xs : List X) → length xs < reach d → depth (bush_of before xs) ≤ d
depth_of d before h xs l = depth_in d (length xs) before h xs l

-- ---- without turns
enough : {X : Type 0} (turns more : ℕ) (before : ℕ → ℕ) → Halves before → (xs : List X) → length xs ≤ turns → length xs ≤ more → bush_in turns before xs ≡ bush_in more before xs
enough zero zero before h xs l m = refl
enough zero (suc more) before h [] l m = refl
enough zero (suc more) before h (x ∷ xs) l m = absurd (omega arith)
enough (suc turns) zero before h [] l m = refl
enough (suc turns) zero before h (x ∷ xs) l m = absurd (omega arith)
enough (suc turns) (suc more) before h [] l m = refl
enough (suc turns) (suc more) before h (x ∷ xs) l m =
    let k : ℕ = before (suc (length xs)) in
    let inside : k < suc (length xs) = omega (arith, h.low (length xs)) in
    let front = length-take k (x ∷ xs) in
    let back = length-drop (suc k) (x ∷ xs) in
    ap₂ (λ a b. fork a (get_or (x ∷ xs) k x) b) (enough turns more before h (take k (x ∷ xs)) (omega arith) (omega arith)) (enough turns more before h (drop (suc k) (x ∷ xs)) (omega arith) (omega arith))

pub is_halved : {X : Type 0} (before : ℕ → ℕ) → Halves before → IsHalved X before
is_halved before h = record {
  nothing = refl;
  forked = λ x xs.
      let k : ℕ = before (suc (length xs)) in
      let inside : k < suc (length xs) = omega (arith, h.low (length xs)) in
      let front = length-take k (x ∷ xs) in
      let back = length-drop (suc k) (x ∷ xs) in
      ap₂ (λ a b. fork a (get_or (x ∷ xs) k x) b)
      (enough (length xs) (length (take k (x ∷ xs))) before h (take k (x ∷ xs)) (omega arith) (omega arith))
      (enough (length xs) (length (drop (suc k) (x ∷ xs))) before h (drop (suc k) (x ∷ xs)) (omega arith) (omega arith));
}
