-- The bounds rise strictly, have the ends of every edge, and are at most twice as many as the edges.
-- Assumes nothing.
use Rattle.std.proofs.Common.{◌≡◌, suc, ◌+◌, ◌≤◌, true, List, [], ◌∷◌, length, ℤ, ◌≤ℤ◌, ◌<ℤ◌, sym, refl, ◌∙◌, subst, ⊎_elim, arith}
use lib.Signed.{lt_z, le_z}
use borrow.Author.Differences.{ints}
use Rattle.std.specs.List.{ContainsAt, AllByRecursion}
use Rattle.std.proofs.ByRecursion.{All-weaker, has_shuffled, all_shuffled}
use Rattle.std.proofs.lemmas.Bool.{cond_both}
use Rattle.algebra.proofs.Order.{int_le→≤ℤ, int_lt→<ℤ, int_lt_false→≤ℤ, ≤ℤ-antisym}
use Rattle.records.specs.declared.raw.EdgeRecord.{EdgeRecord}
use Rattle.slices.specs.Order.{rising, sorted}
use Rattle.slices.proofs.Tests.{rising_parts, all_from_at_most_each}
use Rattle.slices.proofs.SortedLists.{rising_sorted, shuffled_sorted, length_sorted}
use Rattle.geometry.specs.FractionOrder.{int_le_total, int_le_transitive}
use Rattle.slabs.proofs.Elements.{has_cases, has_first, has_later}
use Rattle.slabs.proofs.Pairwise.{Pairwise}
use Rattle.zone_figure.specs.Bounds.{ends_of, distinct, bounds_of}

-- ---- each value once
module _ (P : ℤ → Type 0) where
  pub all_distinct : (xs : List ℤ) → AllByRecursion P xs → AllByRecursion P (distinct xs)
  all_distinct [] h = tt
  all_distinct (x ∷ []) h = h
  all_distinct (x ∷ y ∷ ys) h =
      let later = all_distinct (y ∷ ys) h.1 in
      cond_both (lt_z x y) (x ∷ distinct (y ∷ ys)) (distinct (y ∷ ys)) (AllByRecursion P) (λ _. (h.0, later)) (λ _. later)

pub distinct_rises : (xs : List ℤ) → Pairwise ◌≤ℤ◌ xs → Pairwise ◌≤ℤ◌ (distinct xs)
distinct_rises [] h = tt
distinct_rises (x ∷ []) h = h
distinct_rises (x ∷ y ∷ ys) h =
    let later = distinct_rises (y ∷ ys) h.1 in
    cond_both (lt_z x y) (x ∷ distinct (y ∷ ys)) (distinct (y ∷ ys)) (Pairwise ◌≤ℤ◌) (λ _. (all_distinct (λ z. x ≤ℤ z) (y ∷ ys) h.0, later)) (λ _. later)

pub distinct_rises_strictly : (xs : List ℤ) → Pairwise ◌≤ℤ◌ xs → Pairwise ◌<ℤ◌ (distinct xs)
distinct_rises_strictly [] h = tt
distinct_rises_strictly (x ∷ []) h = h
distinct_rises_strictly (x ∷ y ∷ ys) h =
    let later = distinct_rises_strictly (y ∷ ys) h.1 in
    cond_both (lt_z x y) (x ∷ distinct (y ∷ ys)) (distinct (y ∷ ys)) (Pairwise ◌<ℤ◌)
    (λ t. let below = int_lt→<ℤ {a = x} {b = y} t in (all_distinct (λ z. x <ℤ z) (y ∷ ys) (below, All-weaker (λ z. y ≤ℤ z) (λ z. x <ℤ z) (λ z k. onward below k) ys h.1.0), later)) (λ _. later)
  where
    onward : {z : ℤ} → x <ℤ y → y ≤ℤ z → x <ℤ z
    onward l m = omega (arith, ints)

length_distinct : (xs : List ℤ) → length (distinct xs) ≤ length xs
length_distinct [] = omega arith
length_distinct (x ∷ []) = omega arith
length_distinct (x ∷ y ∷ ys) =
    let later = length_distinct (y ∷ ys) in
    cond_both (lt_z x y) (x ∷ distinct (y ∷ ys)) (distinct (y ∷ ys)) (λ l. length l ≤ suc (suc (length ys))) (λ _. omega arith) (λ _. omega arith)

pub has_distinct : (xs : List ℤ) → Pairwise ◌≤ℤ◌ xs → (z : ℤ) → ContainsAt xs z → ContainsAt (distinct xs) z
has_distinct [] h z m = m
has_distinct (x ∷ []) h z m = m
has_distinct (x ∷ y ∷ ys) h z m =
    let later = has_distinct (y ∷ ys) h.1 in
    cond_both (lt_z x y) (x ∷ distinct (y ∷ ys)) (distinct (y ∷ ys)) (λ l. ContainsAt l z)
    (λ _. ⊎_elim (λ e. subst (λ t. ContainsAt (x ∷ distinct (y ∷ ys)) t) e (has_first x (distinct (y ∷ ys)))) (λ k. has_later x (distinct (y ∷ ys)) z (later z k)) (has_cases x (y ∷ ys) z m))
    (λ t. ⊎_elim (λ e. later z (subst (λ t. ContainsAt (y ∷ ys) t) (sym (≤ℤ-antisym h.0.0 (int_lt_false→≤ℤ {a = x} {b = y} t)) ∙ e) (has_first y ys))) (later z) (has_cases x (y ∷ ys) z m))

-- ---- the ends
rises : (xs : List ℤ) → rising le_z xs ≡ true → Pairwise ◌≤ℤ◌ xs
rises [] h = tt
rises (x ∷ xs) h =
    let parts = rising_parts le_z x xs h in
    (All-weaker (λ y. le_z x y ≡ true) (λ y. x ≤ℤ y) (λ y t. int_le→≤ℤ {a = x} {b = y} t) xs (all_from_at_most_each le_z x xs parts.0), rises xs parts.1)

ends_rise : (held : List EdgeRecord) → Pairwise ◌≤ℤ◌ (sorted le_z (ends_of held))
ends_rise held = rises (sorted le_z (ends_of held)) (rising_sorted le_z int_le_total int_le_transitive (ends_of held))

pub bounds_rise : (held : List EdgeRecord) → Pairwise ◌≤ℤ◌ (bounds_of held)
bounds_rise held = distinct_rises (sorted le_z (ends_of held)) (ends_rise held)

pub bounds_rise_strictly : (held : List EdgeRecord) → Pairwise ◌<ℤ◌ (bounds_of held)
bounds_rise_strictly held = distinct_rises_strictly (sorted le_z (ends_of held)) (ends_rise held)

has_bound : (held : List EdgeRecord) (x : ℤ) → ContainsAt (ends_of held) x → ContainsAt (bounds_of held) x
has_bound held x h =
    has_distinct (sorted le_z (ends_of held)) (ends_rise held) x (has_shuffled (ends_of held) (sorted le_z (ends_of held)) x (shuffled_sorted le_z (ends_of held)) h)

-- both ends of an edge
abbrev pub EndsIn : List ℤ → EdgeRecord → Type 0
EndsIn xs e = ContainsAt xs e.x1 × ContainsAt xs e.x2

pub ends_in_ends : (held : List EdgeRecord) → AllByRecursion (EndsIn (ends_of held)) held
ends_in_ends [] = tt
ends_in_ends (e ∷ held) = (
  (has_first e.x1 (e.x2 ∷ ends_of held), has_later e.x1 (e.x2 ∷ ends_of held) e.x2 (has_first e.x2 (ends_of held))),
  All-weaker (EndsIn (ends_of held)) (EndsIn (ends_of (e ∷ held)))
      (λ f h. (has_later e.x1 (e.x2 ∷ ends_of held) f.x1 (has_later e.x2 (ends_of held) f.x1 h.0), has_later e.x1 (e.x2 ∷ ends_of held) f.x2 (has_later e.x2 (ends_of held) f.x2 h.1)))
      held (ends_in_ends held),
)

pub ends_in_bounds : (held : List EdgeRecord) → AllByRecursion (EndsIn (bounds_of held)) held
ends_in_bounds held =
    All-weaker (EndsIn (ends_of held)) (EndsIn (bounds_of held)) (λ f h. (has_bound held f.x1 h.0, has_bound held f.x2 h.1)) held (ends_in_ends held)

length_ends : (held : List EdgeRecord) → length (ends_of held) ≡ length held + length held
length_ends [] = refl
length_ends (e ∷ held) = omega (arith, length_ends held)

pub length_bounds : (held : List EdgeRecord) → length (bounds_of held) ≤ length held + length held
length_bounds held =
    omega (arith, length_distinct (sorted le_z (ends_of held)), length_sorted le_z (ends_of held), length_ends held)

-- what holds of both ends of every edge holds of every bound
module _ (P : ℤ → Type 0) where
  all_ends : (held : List EdgeRecord) → AllByRecursion (λ e. P e.x1 × P e.x2) held → AllByRecursion P (ends_of held)
  all_ends [] h = tt
  all_ends (e ∷ held) h = (h.0.0, (h.0.1, all_ends held h.1))

  pub all_bounds : (held : List EdgeRecord) → AllByRecursion (λ e. P e.x1 × P e.x2) held → AllByRecursion P (bounds_of held)
  all_bounds held h =
      all_distinct P (sorted le_z (ends_of held)) (all_shuffled P (ends_of held) (sorted le_z (ends_of held)) (shuffled_sorted le_z (ends_of held)) (all_ends held h))
