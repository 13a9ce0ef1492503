-- Held records by the elements that a register keeps: raw turns an element into its record.
use Rattle.std.proofs.Common.{◌≡◌, ℕ, suc, ◌+◌, ◌<◌, Bool, true, false, cond, ◌||◌, List, [], ◌∷◌, map, length, ℤ, is_some, Some, Option, sym, refl, ap, ◌∙◌, ⊎_elim, arith}
use Rattle.std.proofs.lemmas.Bool.{cases_Bool, cond-true, cond-false, or_left}
use Rattle.std.specs.List.{remove}
use Rattle.slices.specs.Order.{placed}
use Rattle.records.specs.Held.{same_number, holds, by_number, put_in, taken_out, place_from}

cond_map : {A B : Type 0} (g : A → B) (b : Bool) (x y : A) → g (cond b x y) ≡ cond b (g x) (g y)
cond_map g true x y = refl
cond_map g false x y = refl

module _ {A R : Type 0} (raw : A → R) (number_of : R → ℤ) where
  -- a placing of elements is a placing of their records
  pub put_in_lem : (at_most : A → A → Bool) → ((a b : A) → at_most a b ≡ by_number number_of (raw a) (raw b)) → (x : A) (xs : List A) → map raw (placed at_most x xs) ≡ put_in number_of (raw x) (map raw xs)
  put_in_lem at_most agrees x [] = refl
  put_in_lem at_most agrees x (y ∷ ys) =
      cond_map (map raw) (at_most y x) (y ∷ placed at_most x ys) (x ∷ y ∷ ys) ∙ ap (λ (b : Bool). cond b (raw y ∷ map raw (placed at_most x ys)) (raw x ∷ raw y ∷ map raw ys)) (agrees y x) ∙ ap (λ (l : List R). cond (by_number number_of (raw y) (raw x)) (raw y ∷ l) (raw x ∷ raw y ∷ map raw ys)) (put_in_lem at_most agrees x ys)

  -- the search among elements is the search among their records
  pub place_raw : (k : ℕ) (n : ℤ) (xs : List A) → place_from k (λ a. number_of (raw a)) n xs ≡ place_from k number_of n (map raw xs)
  place_raw k n [] = refl
  place_raw k n (x ∷ xs) =
      ap (λ (o : Option ℕ). cond (same_number (number_of (raw x)) n) (Some k) o) (place_raw (suc k) n xs)

module _ {R : Type 0} (number_of : R → ℤ) (n : ℤ) where
  -- a place is found exactly if the number is held
  pub holds_found : (k : ℕ) (rs : List R) → holds number_of n rs ≡ is_some (place_from k number_of n rs)
  holds_found k [] = refl
  holds_found k (r ∷ rs) =
      ⊎_elim
      (λ same. or_left _ _ same ∙ sym (ap is_some (cond-true _ (Some k) _ same)))
      (λ other. ap (λ (b : Bool). b || holds number_of n rs) other ∙ holds_found (suc k) rs ∙ sym (ap is_some (cond-false _ (Some k) _ other)))
      (cases_Bool (same_number (number_of r) n))

  -- what stands at the place that is found is what is taken out
  pub found_out : (k j : ℕ) (rs : List R) → place_from k number_of n rs ≡ Some j → (d : ℕ) × (j ≡ d + k) × (d < length rs) × (taken_out number_of n rs ≡ remove rs d)
  found_out k j [] e = absurd (let z : ◌≡◌ {A = ℕ} 0 1 = cc in omega arith)
  found_out k j (r ∷ rs) e =
      ⊎_elim
      (λ same. let j-is : Some k ≡ Some j = sym (cond-true _ (Some k) _ same) ∙ e in let here : k ≡ j = cc in (0, omega arith, omega arith, cond-true _ rs (r ∷ taken_out number_of n rs) same))
      (λ other. let rest = found_out (suc k) j rs (sym (cond-false _ (Some k) _ other) ∙ e) in (suc rest.0, omega (arith, rest.1), omega (arith, rest.2), cond-false _ rs (r ∷ taken_out number_of n rs) other ∙ ap (λ (l : List R). r ∷ l) rest.3))
      (cases_Bool (same_number (number_of r) n))

module _ {A R : Type 0} (raw : A → R) (number_of : R → ℤ) (n : ℤ) where
  -- what is held and what is taken out, by elements and by their records
  pub holds_raw : (xs : List A) → holds (λ a. number_of (raw a)) n xs ≡ holds number_of n (map raw xs)
  holds_raw [] = refl
  holds_raw (x ∷ xs) = ap (λ (b : Bool). same_number (number_of (raw x)) n || b) (holds_raw xs)

  pub taken_out_lem : (xs : List A) → map raw (taken_out (λ a. number_of (raw a)) n xs) ≡ taken_out number_of n (map raw xs)
  taken_out_lem [] = refl
  taken_out_lem (x ∷ xs) =
      cond_map (map raw) (same_number (number_of (raw x)) n) xs (x ∷ taken_out (λ a. number_of (raw a)) n xs) ∙ ap (λ (l : List R). cond (same_number (number_of (raw x)) n) (map raw xs) (raw x ∷ l)) (taken_out_lem xs)

-- a number is held exactly if its place is found among the elements
pub held_found : {A R : Type 0} (raw : A → R) (number_of : R → ℤ) (n : ℤ) (xs : List A) → holds number_of n (map raw xs) ≡ is_some (place_from 0 (λ a. number_of (raw a)) n xs)
held_found raw number_of n xs = holds_found number_of n 0 (map raw xs) ∙ ap is_some (sym (place_raw raw number_of 0 n xs))
