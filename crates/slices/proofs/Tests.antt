-- Tests over a list as facts of its elements.
use Rattle.std.proofs.Common.{◌≡◌, zero, suc, Bool, true, ◌⊎◌, List, [], ◌∷◌, refl, inl, inr, ⊎_elim, arith}
use Rattle.std.specs.List.{ContainsAt, AllByRecursion}
use Rattle.std.proofs.lemmas.Bool.{and_parts, and_from, cases_Bool}
use Rattle.std.proofs.ByRecursion.{All-weaker}
use Rattle.slices.specs.Order.{IsTotal, IsTransitive, at_most_each, rising}

pub has_cons_cases : {X : Type 0} (x : X) (xs : List X) (z : X) → ContainsAt (x ∷ xs) z → (x ≡ z) ⊎ ContainsAt xs z
has_cons_cases x xs z (zero, below, at) = inl (at x)
has_cons_cases x xs z (suc k, below, at) = inr (k, omega arith, λ d. at d)

module _ {X : Type 0} (at_most : X → X → Bool) where
  pub all_from_at_most_each : (x : X) (ys : List X) → at_most_each at_most x ys ≡ true → AllByRecursion (λ y. at_most x y ≡ true) ys
  all_from_at_most_each x [] h = tt
  all_from_at_most_each x (y ∷ ys) h =
      let p = and_parts (at_most x y) (at_most_each at_most x ys) h in (p.0, all_from_at_most_each x ys p.1)

  pub at_most_each_from_all : (x : X) (ys : List X) → AllByRecursion (λ y. at_most x y ≡ true) ys → at_most_each at_most x ys ≡ true
  at_most_each_from_all x [] h = refl
  at_most_each_from_all x (y ∷ ys) h = and_from _ _ h.0 (at_most_each_from_all x ys h.1)

  -- each element rises to those after it, and those after it rise
  pub rising_parts : (x : X) (xs : List X) → rising at_most (x ∷ xs) ≡ true → (at_most_each at_most x xs ≡ true) × (rising at_most xs ≡ true)
  rising_parts x xs h = and_parts (at_most_each at_most x xs) (rising at_most xs) h

  pub rising_from : (x : X) (xs : List X) → at_most_each at_most x xs ≡ true → rising at_most xs ≡ true → rising at_most (x ∷ xs) ≡ true
  rising_from x xs a r = and_from _ _ a r

  pub reflexive_from_total : IsTotal at_most → (x : X) → at_most x x ≡ true
  reflexive_from_total total x = ⊎_elim (λ t. t) (λ f. total x x f) (cases_Bool (at_most x x))

  -- what is at most an element is at most all that it is at most of
  pub at_most_each_below : IsTransitive at_most → (x y : X) (zs : List X) → at_most x y ≡ true → at_most_each at_most y zs ≡ true
      → at_most_each at_most x zs ≡ true
  at_most_each_below transitive x y zs h each =
      at_most_each_from_all x zs
      (All-weaker (λ z. at_most y z ≡ true) (λ z. at_most x z ≡ true) (λ z. transitive x y z h) zs (all_from_at_most_each y zs each))
