-- Likeness is equality.
use Rattle.std.proofs.Common.{◌≡◌, ℕ, Bool, true, false, eqb, List, [], ◌∷◌, ℤ, Decides, sym, refl, subst, arith}
use Rattle.std.proofs.lemmas.Int.{ints}
use Rattle.std.proofs.lemmas.Bool.{and_from}
use Rattle.records.specs.Held.{same_number}
use Rattle.search.specs.Making.{agree}
use Rattle.search.proofs.Growing.{agree_same, eqb_same, numbers_same}

-- two tests that decide the same are equal
pub decides_same : (P : Type 0) (a b : Bool) → Decides a P → Decides b P → a ≡ b
decides_same P true true h k = refl
decides_same P true false h k = sym (k.1 (h.0 refl))
decides_same P false true h k = h.1 (k.0 refl)
decides_same P false false h k = refl

agree_refl : {X : Type 0} (same : X → X → Bool) → ((x : X) → same x x ≡ true) → (xs : List X) → agree same xs xs ≡ true
agree_refl same self [] = refl
agree_refl same self (x ∷ xs) = and_from (same x x) (agree same xs xs) (self x) (agree_refl same self xs)

pub eqb_self : (n : ℕ) → eqb n n ≡ true
eqb_self n = grind (arith)

number_self : (z : ℤ) → same_number z z ≡ true
number_self z = grind (arith, ints)

pub numbers_decide : (xs ys : List ℤ) → Decides (agree same_number xs ys) (xs ≡ ys)
numbers_decide xs ys = (agree_same same_number numbers_same xs ys, λ e. subst (λ (t : List ℤ). agree same_number xs t ≡ true) e (agree_refl same_number number_self xs))

pub places_decide : (xs ys : List ℕ) → Decides (agree eqb xs ys) (xs ≡ ys)
places_decide xs ys = (agree_same eqb eqb_same xs ys, λ e. subst (λ (t : List ℕ). agree eqb xs t ≡ true) e (agree_refl eqb eqb_self xs))
