-- What stays of a list without one of its elements.
use Rattle.std.proofs.Common.{◌≡◌, ℕ, zero, suc, ◌<◌, Bool, true, ◌⊎◌, List, [], ◌∷◌, length, get_or, refl, inl, inr, ⊎_elim, arith}
use Rattle.std.specs.List.{remove, ContainsAt, AllByRecursion}
use Rattle.std.proofs.ByRecursion.{has_append_right}
use Rattle.slices.specs.Order.{rising}
use Rattle.slices.proofs.Tests.{all_from_at_most_each, at_most_each_from_all, rising_parts, rising_from, has_cons_cases}

pub all_removed : {X : Type 0} (P : X → Type 0) (xs : List X) (i : ℕ) → AllByRecursion P xs → AllByRecursion P (remove xs i)
all_removed P [] zero h = tt
all_removed P [] (suc i) h = tt
all_removed P (x ∷ xs) zero h = h.1
all_removed P (x ∷ xs) (suc i) h = (h.0, all_removed P xs i h.1)

pub rising_removed : {X : Type 0} (at_most : X → X → Bool) (xs : List X) (i : ℕ) → rising at_most xs ≡ true → rising at_most (remove xs i) ≡ true
rising_removed at_most [] zero h = refl
rising_removed at_most [] (suc i) h = refl
rising_removed at_most (x ∷ xs) zero h = (rising_parts at_most x xs h).1
rising_removed at_most (x ∷ xs) (suc i) h =
    let parts = rising_parts at_most x xs h in
    rising_from at_most x (remove xs i)
    (at_most_each_from_all at_most x (remove xs i)
    (all_removed (λ y. at_most x y ≡ true) xs i (all_from_at_most_each at_most x xs parts.0)))
    (rising_removed at_most xs i parts.1)

pub has_removed_old : {X : Type 0} (xs : List X) (i : ℕ) (z : X) → ContainsAt (remove xs i) z → ContainsAt xs z
has_removed_old [] zero z h = h
has_removed_old [] (suc i) z h = h
has_removed_old (x ∷ xs) zero z h = has_append_right (x ∷ []) xs z h
has_removed_old (x ∷ xs) (suc i) z h =
    ⊎_elim (λ e. (0, omega arith, λ d. e))
    (λ later. has_append_right (x ∷ []) xs z (has_removed_old xs i z later))
    (has_cons_cases x (remove xs i) z h)

-- each element stands in the rest or is the one taken out
pub has_removed_cases : {X : Type 0} (xs : List X) (i : ℕ) (z : X) → i < length xs → ContainsAt xs z
    → (get_or xs i z ≡ z) ⊎ ContainsAt (remove xs i) z
has_removed_cases [] i z below h = absurd (omega arith)
has_removed_cases (x ∷ xs) zero z below h = has_cons_cases x xs z h
has_removed_cases (x ∷ xs) (suc i) z below h =
    ⊎_elim (λ e. inr (0, omega arith, λ d. e))
    (λ later. ⊎_elim inl (λ rest. inr (has_append_right (x ∷ []) (remove xs i) z rest))
    (has_removed_cases xs i z (omega arith) later))
    (has_cons_cases x xs z h)
