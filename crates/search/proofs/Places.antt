-- Elements at the places of a list.
use Rattle.std.proofs.Common.{◌≡◌, ℕ, zero, suc, ◌<◌, ◌≤◌, List, [], ◌∷◌, ◌++◌, length, Some, None, Option, refl, ap, subst, arith}
use Rattle.std.specs.List.{slice_get, AllByRecursion}
use Rattle.search.specs.Picks.{ahead, picks}

pub not_both : {X : Type 0} (x : X) → None ≡ Some x → ⊥
not_both x h = let z : ◌≡◌ {A = ℕ} 0 1 = cc in omega arith

pub some_same : {X : Type 0} (x y : X) → Some x ≡ Some y → x ≡ y
some_same x y h = cc

pub nth_before : {X : Type 0} (xs ys : List X) (i : ℕ) (x : X) → slice_get xs i ≡ Some x → slice_get (xs ++ ys) i ≡ Some x
nth_before [] ys i x h = absurd (not_both x h)
nth_before (y ∷ xs) ys zero x h = h
nth_before (y ∷ xs) ys (suc i) x h = nth_before xs ys i x h

pub nth_end : {X : Type 0} (xs : List X) (x : X) → slice_get (xs ++ x ∷ []) (length xs) ≡ Some x
nth_end [] x = refl
nth_end (y ∷ xs) x = nth_end xs x

pub nth_bound : {X : Type 0} (xs : List X) (i : ℕ) (x : X) → slice_get xs i ≡ Some x → i < length xs
nth_bound [] i x h = absurd (not_both x h)
nth_bound (y ∷ xs) zero x h = omega arith
nth_bound (y ∷ xs) (suc i) x h = omega (arith, nth_bound xs i x h)

length_ahead : {X : Type 0} (o : Option X) (xs : List X) (n : ℕ) → length xs ≤ n → length (ahead o xs) ≤ suc n
length_ahead None xs n h = omega arith
length_ahead (Some x) xs n h = omega arith

pub length_picks : {X : Type 0} (xs : List X) (places : List ℕ) → length (picks xs places) ≤ length places
length_picks xs [] = omega arith
length_picks xs (place ∷ places) = length_ahead (slice_get xs place) (picks xs places) (length places) (length_picks xs places)

pub ahead_append : {X : Type 0} (o : Option X) (xs ys : List X) → ahead o xs ++ ys ≡ ahead o (xs ++ ys)
ahead_append None xs ys = refl
ahead_append (Some x) xs ys = refl

nth_all : {X : Type 0} (P : X → Type 0) (xs : List X) (i : ℕ) (x : X) → AllByRecursion P xs → slice_get xs i ≡ Some x → P x
nth_all P [] i x h at = absurd (not_both x at)
nth_all P (y ∷ xs) zero x h at = let e : y ≡ x = cc in subst P e h.0
nth_all P (y ∷ xs) (suc i) x h at = nth_all P xs i x h.1 at

pub all_picks : {X : Type 0} (P : X → Type 0) (xs : List X) (places : List ℕ) → AllByRecursion P xs → AllByRecursion P (picks xs places)
all_picks P xs [] h = tt
all_picks P xs (place ∷ places) h = go (slice_get xs place) refl (all_picks P xs places h)
  where
    go : (o : Option _) → slice_get xs place ≡ o → AllByRecursion P (picks xs places) → AllByRecursion P (ahead o (picks xs places))
    go None at rest = rest
    go (Some x) at rest = (nth_all P xs place x h at, rest)

nth_not_past : {X : Type 0} (xs : List X) (i : ℕ) → i < length xs → slice_get xs i ≡ None → ⊥
nth_not_past [] i h at = omega arith
nth_not_past (x ∷ xs) zero h at = let z : ◌≡◌ {A = ℕ} 0 1 = cc in omega arith
nth_not_past (x ∷ xs) (suc i) h at = nth_not_past xs i (omega arith) at

pub picks_each : {X : Type 0} (xs : List X) (places : List ℕ) → AllByRecursion (λ p. p < length xs) places → length (picks xs places) ≡ length places
picks_each xs [] h = refl
picks_each xs (place ∷ places) h = go (slice_get xs place) refl (picks_each xs places h.1)
  where
    go : (o : Option _) → slice_get xs place ≡ o → length (picks xs places) ≡ length places → length (ahead o (picks xs places)) ≡ suc (length places)
    go None at rest = absurd (nth_not_past xs place h.0 at)
    go (Some x) at rest = ap suc rest
