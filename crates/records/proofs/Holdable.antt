-- What is true of every list of records that a register can hold.
use Rattle.std.proofs.Common.{◌≡◌, ℕ, ◌<◌, ◌≤◌, Bool, true, false, List, [], ◌∷◌, length, ℤ, None, Option, sym, refl, ap, ◌∙◌, subst, ⊎_elim, arith}
use lib.Signed.{lt_z, le_z}
use Rattle.std.specs.List.{AllByRecursion}
use Rattle.std.proofs.lemmas.Int.{ints}
use Rattle.std.proofs.lemmas.Bool.{cases_Bool, cond-true, cond-false, or_parts, and_parts, and_from}
use Rattle.refusal.specs.declared.Refusal.{Refusal}
use Rattle.slices.specs.Order.{IsTransitive, at_most_each, rising}
use Rattle.slices.proofs.Placing.{all_placed, length_placed, rising_placed_by}
use Rattle.slices.proofs.Tests.{all_from_at_most_each, at_most_each_from_all}
use Rattle.records.specs.Held.{same_number, holds, by_number, taken_out, is_before, Holdable, fresh, added, removed}
use Rattle.records.proofs.Numbers.{differ}

int_lt_trans : (a b c : ℤ) → lt_z a b ≡ true → lt_z b c ≡ true → lt_z a c ≡ true
int_lt_trans a b c h k = grind (arith, ints)

int_lt_apart : (a b : ℤ) → lt_z a b ≡ true → lt_z b a ≡ true → ⊥
int_lt_apart a b h k = grind (arith, ints)

not_le_z : (a b : ℤ) → le_z a b ≡ false → lt_z b a ≡ true
not_le_z a b h = grind (arith, ints)

int_le_apart : (a b : ℤ) → (a ≡ b → ⊥) → le_z a b ≡ true → lt_z a b ≡ true
int_le_apart a b n h = grind (arith, ints)

module _ {R : Type 0} (number_of : R → ℤ) where
  -- what is true of each record is true of each that is left
  pub all_taken_out : (P : R → Type 0) (n : ℤ) (rs : List R) → AllByRecursion P rs → AllByRecursion P (taken_out number_of n rs)
  all_taken_out P n [] h = tt
  all_taken_out P n (r ∷ rs) h =
      ⊎_elim
      (λ t. subst (AllByRecursion P) (sym (cond-true _ rs (r ∷ taken_out number_of n rs) t)) h.1)
      (λ f. subst (AllByRecursion P) (sym (cond-false _ rs (r ∷ taken_out number_of n rs) f)) (h.0, all_taken_out P n rs h.1))
      (cases_Bool (same_number (number_of r) n))

  length_taken_out : (n : ℤ) (rs : List R) → length (taken_out number_of n rs) ≤ length rs
  length_taken_out n [] = omega arith
  length_taken_out n (r ∷ rs) =
      ⊎_elim
      (λ t. let e = ap length (cond-true _ rs (r ∷ taken_out number_of n rs) t) in omega (arith, e))
      (λ f. let e = ap length (cond-false _ rs (r ∷ taken_out number_of n rs) f) in omega (arith, e, length_taken_out n rs))
      (cases_Bool (same_number (number_of r) n))

  rising_taken_out : (before : R → R → Bool) (n : ℤ) (rs : List R) → rising before rs ≡ true → rising before (taken_out number_of n rs) ≡ true
  rising_taken_out before n [] h = refl
  rising_taken_out before n (r ∷ rs) h =
      let parts = and_parts (at_most_each before r rs) (rising before rs) h in
      ⊎_elim
      (λ t. ap (rising before) (cond-true _ rs (r ∷ taken_out number_of n rs) t) ∙ parts.1)
      (λ f. ap (rising before) (cond-false _ rs (r ∷ taken_out number_of n rs) f) ∙ and_from _ _ (at_most_each_from_all before r (taken_out number_of n rs) (all_taken_out (λ s. before r s ≡ true) n rs (all_from_at_most_each before r rs parts.0))) (rising_taken_out before n rs parts.1))
      (cases_Bool (same_number (number_of r) n))

  -- no record among them has a number that is not held
  not_among : (n : ℤ) (rs : List R) → holds number_of n rs ≡ false → AllByRecursion (λ r. number_of r ≡ n → ⊥) rs
  not_among n [] h = tt
  not_among n (r ∷ rs) h =
      let parts = or_parts (same_number (number_of r) n) (holds number_of n rs) h in
      (differ (number_of r) n parts.0, not_among n rs parts.1)

  before_transitive : IsTransitive (is_before number_of)
  before_transitive x y z h k = int_lt_trans (number_of x) (number_of y) (number_of z) h k

  pub before_apart : (r s : R) → is_before number_of r s ≡ true → is_before number_of s r ≡ true → ⊥
  before_apart r s h k = int_lt_apart (number_of r) (number_of s) h k

  after_placing : (x y : R) → by_number number_of y x ≡ false → is_before number_of x y ≡ true
  after_placing x y h = not_le_z (number_of y) (number_of x) h

  before_placing : (x : R) (rs : List R) → AllByRecursion (λ r. number_of r ≡ number_of x → ⊥) rs → AllByRecursion (λ y. by_number number_of y x ≡ true → is_before number_of y x ≡ true) rs
  before_placing x [] h = tt
  before_placing x (y ∷ ys) h = (int_le_apart (number_of y) (number_of x) h.0, before_placing x ys h.1)

module _ {R : Type 0} (number_of : R → ℤ) (add_refusal : List R → R → Option Refusal) where
  -- what every added record has, every held record has
  pub holdable_all : (P : R → Type 0) → ((rs : List R) (r : R) → add_refusal rs r ≡ None → P r) → (rs : List R) → Holdable number_of add_refusal rs → AllByRecursion P rs
  holdable_all P given _ fresh = tt
  holdable_all P given _ (added {rs} r h free) = all_placed P (by_number number_of) r rs (given rs r free) (holdable_all P given rs h)
  holdable_all P given _ (removed {rs} n h held) = all_taken_out number_of P n rs (holdable_all P given rs h)

  pub holdable_length : (most : ℕ) → ((rs : List R) (r : R) → add_refusal rs r ≡ None → length rs < most) → (rs : List R) → Holdable number_of add_refusal rs → length rs ≤ most
  holdable_length most given _ fresh = omega arith
  holdable_length most given _ (added {rs} r h free) = omega (arith, given rs r free, length_placed (by_number number_of) r rs)
  holdable_length most given _ (removed {rs} n h held) = omega (arith, holdable_length most given rs h, length_taken_out number_of n rs)

  -- held numbers rise, each below the next
  pub holdable_rising : ((rs : List R) (r : R) → add_refusal rs r ≡ None → holds number_of (number_of r) rs ≡ false) → (rs : List R) → Holdable number_of add_refusal rs → rising (is_before number_of) rs ≡ true
  holdable_rising given _ fresh = refl
  holdable_rising given _ (added {rs} r h free) =
      rising_placed_by (by_number number_of) (is_before number_of) (before_transitive number_of) r (after_placing number_of r) rs (before_placing number_of r rs (not_among number_of (number_of r) rs (given rs r free))) (holdable_rising given rs h)
  holdable_rising given _ (removed {rs} n h held) =
      rising_taken_out number_of (is_before number_of) n rs (holdable_rising given rs h)
