-- How many edges the slabs of n edges have in all: at most the square of n. Each bound is counted at one end that lies on it, and
-- of two edges at most two ends are counted at an x that the other edge covers.
-- Assumes nothing.
use Rattle.std.proofs.Common.{◌≡◌, ℕ, zero, suc, ◌+◌, ◌≤◌, Bool, true, false, cond, not, ◌||◌, List, [], ◌∷◌, length, ℤ, ◌<ℤ◌, filter, sym, refl, ap, ◌∙◌, subst, ⊎_elim, arith}
use lib.Signed.{lt_z, le_z}
use borrow.Author.Differences.{ints}
use Rattle.std.specs.List.{ContainsAt, AllByRecursion}
use Rattle.std.proofs.ByRecursion.{All-weaker, all_kept_by}
use Rattle.std.proofs.lemmas.Bool.{and_parts, and_from, or_parts, or_cases, or_left, or_right, cond_both, cond-true, cond-false, true≢false, both_ways}
use Rattle.algebra.proofs.Order.{int_le→≤ℤ, int_lt→<ℤ, ≤ℤ→int_le, ≡→≤ℤ, ≤ℤ-antisym}
use Rattle.records.specs.declared.raw.EdgeRecord.{EdgeRecord}
use Rattle.records.specs.Held.{same_number}
use Rattle.geometry.specs.Edge.{covers}
use Rattle.slabs.proofs.Elements.{has_cases, has_none}
use Rattle.slabs.proofs.Pairwise.{Pairwise}
use Rattle.zone_figure.specs.Bounds.{ends_of}
use Rattle.zone_figure.specs.Slab.{covering}

abbrev pub sum_of : {X : Type 0} → (X → ℕ) → List X → ℕ
sum_of c [] = 0
sum_of c (x ∷ xs) = c x + sum_of c xs

abbrev among : ℤ → List ℤ → Bool
among x [] = false
among x (y ∷ ys) = same_number x y || among x ys

-- each value once, where it stands last
abbrev sum_once : (ℤ → ℕ) → List ℤ → ℕ
sum_once c [] = 0
sum_once c (x ∷ xs) = cond (among x xs) 0 (c x) + sum_once c xs

same→equal : (x y : ℤ) → same_number x y ≡ true → x ≡ y
same→equal x y h =
    let p = and_parts (le_z x y) (le_z y x) h in ≤ℤ-antisym (int_le→≤ℤ {a = x} {b = y} p.0) (int_le→≤ℤ {a = y} {b = x} p.1)

equal→same : (x y : ℤ) → x ≡ y → same_number x y ≡ true
equal→same x y e = and_from (le_z x y) (le_z y x) (≤ℤ→int_le {a = x} {b = y} (≡→≤ℤ e)) (≤ℤ→int_le {a = y} {b = x} (≡→≤ℤ (sym e)))

has→among : (xs : List ℤ) (x : ℤ) → ContainsAt xs x → among x xs ≡ true
has→among [] x h = absurd (has_none x h)
has→among (y ∷ ys) x h =
    ⊎_elim (λ e. or_left (same_number x y) (among x ys) (equal→same x y (sym e))) (λ k. or_right (same_number x y) (among x ys) (has→among ys x k)) (has_cases y ys x h)

-- ---- a strictly rising list sums up to no more than each value once
module _ (c : ℤ → ℕ) where
  other : ℤ → ℤ → Bool
  other x b = not (same_number b x)

  kept_all : (x : ℤ) (bs : List ℤ) → AllByRecursion (λ b. x <ℤ b) bs → filter (other x) bs ≡ bs
  unfolding other
  kept_all x [] h = refl
  kept_all x (b ∷ bs) h =
      cond-true (other x b) (b ∷ filter (other x) bs) (filter (other x) bs) (apart (same_number b x) refl) ∙ ap (λ l. b ∷ l) (kept_all x bs h.1)
    where
      apart : (t : Bool) → same_number b x ≡ t → not (same_number b x) ≡ true
      apart false e = ap not e
      apart true e = absurd (less h.0 (same→equal b x e))
        where
          less : x <ℤ b → b ≡ x → ⊥
          less l q = omega (arith, ints)

  sum_without : (x : ℤ) (bs : List ℤ) → Pairwise ◌<ℤ◌ bs → sum_of c bs ≤ c x + sum_of c (filter (other x) bs)
  unfolding other
  sum_without x [] h = omega arith
  sum_without x (b ∷ bs) h = by (same_number b x) refl (sum_without x bs h.1)
    where
      by : (t : Bool) → same_number b x ≡ t → sum_of c bs ≤ c x + sum_of c (filter (other x) bs) → c b + sum_of c bs ≤ c x + sum_of c (cond (not (same_number b x)) (b ∷ filter (other x) bs) (filter (other x) bs))
      by true e later =
          let q = same→equal b x e in
          subst (λ l. c b + sum_of c bs ≤ c x + sum_of c l) (sym (cond-false (not (same_number b x)) (b ∷ filter (other x) bs) (filter (other x) bs) (ap not e)))
          (omega (arith, ap c q, ap (sum_of c) (kept_all x bs (subst (λ z. AllByRecursion (λ y. z <ℤ y) bs) q h.0))))
      by false e later =
          subst (λ l. c b + sum_of c bs ≤ c x + sum_of c l) (sym (cond-true (not (same_number b x)) (b ∷ filter (other x) bs) (filter (other x) bs) (ap not e)))
          (omega arith)

  rising_kept : (test : ℤ → Bool) (bs : List ℤ) → Pairwise ◌<ℤ◌ bs → Pairwise ◌<ℤ◌ (filter test bs)
  rising_kept test [] h = tt
  rising_kept test (b ∷ bs) h =
      let later = rising_kept test bs h.1 in
      cond_both (test b) (b ∷ filter test bs) (filter test bs) (Pairwise ◌<ℤ◌) (λ _. (all_kept_by test (λ y. b <ℤ y) bs h.0, later)) (λ _. later)

  among_later : (x : ℤ) (xs bs : List ℤ) → AllByRecursion (λ b. among b (x ∷ xs) ≡ true) bs → AllByRecursion (λ b. among b xs ≡ true) (filter (other x) bs)
  unfolding other
  among_later x xs [] h = tt
  among_later x xs (b ∷ bs) h =
      let later = among_later x xs bs h.1 in
      cond_both (other x b) (b ∷ filter (other x) bs) (filter (other x) bs) (AllByRecursion (λ y. among y xs ≡ true))
      (λ t. (⊎_elim (λ e. absurd (true≢false (sym t ∙ ap not e))) (λ k. k) (or_cases (same_number b x) (among b xs) h.0), later)) (λ _. later)

  pub sum_once_lem : (xs bs : List ℤ) → Pairwise ◌<ℤ◌ bs → AllByRecursion (λ b. among b xs ≡ true) bs → sum_of c bs ≤ sum_once c xs
  sum_once_lem [] [] r h = omega arith
  sum_once_lem [] (b ∷ bs) r h = absurd (true≢false (sym h.0))
  sum_once_lem (x ∷ xs) bs r h =
      by (among x xs) refl (sum_once_lem xs bs r) (sum_once_lem xs (filter (other x) bs) (rising_kept (other x) bs r) (among_later x xs bs h))
    where
      already : among x xs ≡ true → (b : ℤ) → among b (x ∷ xs) ≡ true → among b xs ≡ true
      already t b k = ⊎_elim (λ e. subst (λ z. among z xs ≡ true) (sym (same→equal b x e)) t) (λ l. l) (or_cases (same_number b x) (among b xs) k)

      by : (t : Bool) → among x xs ≡ t → (AllByRecursion (λ b. among b xs ≡ true) bs → sum_of c bs ≤ sum_once c xs) → sum_of c (filter (other x) bs) ≤ sum_once c xs → sum_of c bs ≤ cond t 0 (c x) + sum_once c xs
      by true e all without =
          let k = all (All-weaker (λ b. among b (x ∷ xs) ≡ true) (λ b. among b xs ≡ true) (already e) bs h) in omega arith
      by false e all without = omega (arith, sum_without x bs r)

-- ---- how many edges cover an x
abbrev tally : EdgeRecord → ℤ → ℕ
tally e x = cond (covers e x) 1 0

abbrev pub crowd : List EdgeRecord → ℤ → ℕ
crowd [] x = 0
crowd (e ∷ held) x = tally e x + crowd held x

pub covering_crowd : (held : List EdgeRecord) (x : ℤ) → length (covering x held) ≡ crowd held x
covering_crowd [] x = refl
covering_crowd (e ∷ held) x =
    let later = covering_crowd held x in by (covers e x) later
  where
    by : (t : Bool) → length (covering x held) ≡ crowd held x → length (cond t (e ∷ covering x held) (covering x held)) ≡ cond t 1 0 + crowd held x
    by true k = omega arith
    by false k = omega arith

tally_one : (e : EdgeRecord) (x : ℤ) → tally e x ≤ 1
tally_one e x = cond_both (covers e x) 1 0 (λ n. n ≤ 1) (λ _. omega arith) (λ _. omega arith)

cond_at_most : (t : Bool) (n : ℕ) → cond t 0 n ≤ n
cond_at_most true n = omega arith
cond_at_most false n = omega arith

cond_sum : (t : Bool) (m n : ℕ) → cond t 0 (m + n) ≡ cond t 0 m + cond t 0 n
cond_sum true m n = refl
cond_sum false m n = refl

-- two tallies that are not both 1
one_of : (s t : Bool) → (s ≡ true → t ≡ true → ⊥) → cond s 1 0 + cond t 1 0 ≤ 1
one_of true true h = absurd (h refl refl)
one_of true false h = omega arith
one_of false true h = omega arith
one_of false false h = omega arith

-- of two left ends at different x only one is covered by the other edge; of two right ends one at most
left_ends : (e f : EdgeRecord) → same_number e.x1 f.x1 ≡ false → tally f e.x1 + tally e f.x1 ≤ 1
left_ends e f apart = one_of (covers f e.x1) (covers e f.x1) (λ p q. both_ways (same_number e.x1 f.x1) apart
    (and_from (le_z e.x1 f.x1) (le_z f.x1 e.x1) (and_parts (le_z e.x1 f.x1) (lt_z f.x1 e.x2) q).0 (and_parts (le_z f.x1 e.x1) (lt_z e.x1 f.x2) p).0))

right_ends : (e f : EdgeRecord) → tally f e.x2 + tally e f.x2 ≤ 1
right_ends e f = one_of (covers f e.x2) (covers e f.x2) (λ p q. never (int_lt→<ℤ {a = e.x2} {b = f.x2} (and_parts (le_z f.x1 e.x2) (lt_z e.x2 f.x2) p).1)
    (int_lt→<ℤ {a = f.x2} {b = e.x2} (and_parts (le_z e.x1 f.x2) (lt_z f.x2 e.x2) q).1))
  where
    never : e.x2 <ℤ f.x2 → f.x2 <ℤ e.x2 → ⊥
    never l m = omega (arith, ints)

-- ---- one edge more
module _ (e : EdgeRecord) (s t : Bool) where
  pair : (f : EdgeRecord) (u v : Bool) → (s ≡ false → same_number e.x1 f.x1 ≡ false)
      → (cond s 0 (tally f e.x1) + cond u 0 (tally e f.x1)) + (cond t 0 (tally f e.x2) + cond v 0 (tally e f.x2)) ≤ 2
  pair f u v apart =
      let west : cond s 0 (tally f e.x1) + cond u 0 (tally e f.x1) ≤ 1 = by s refl in
      omega (arith, cond_at_most t (tally f e.x2), cond_at_most v (tally e f.x2), right_ends e f)
    where
      by : (b : Bool) → s ≡ b → cond b 0 (tally f e.x1) + cond u 0 (tally e f.x1) ≤ 1
      by true q = omega (arith, cond_at_most u (tally e f.x1), tally_one e f.x1)
      by false q = omega (arith, cond_at_most u (tally e f.x1), left_ends e f (apart q))

  joining : (held : List EdgeRecord) → (s ≡ false → among e.x1 (ends_of held) ≡ false)
      → cond s 0 (crowd held e.x1) + cond t 0 (crowd held e.x2) + sum_once (tally e) (ends_of held) ≤ length held + length held
  joining [] apart = omega (arith, cond_at_most s 0, cond_at_most t 0)
  joining (f ∷ held) apart =
      let u = among f.x1 (f.x2 ∷ ends_of held) in
      let v = among f.x2 (ends_of held) in
      omega (
        arith,
        cond_sum s (tally f e.x1) (crowd held e.x1),
        cond_sum t (tally f e.x2) (crowd held e.x2),
        pair f u v (λ q. (or_parts (same_number e.x1 f.x1) (among e.x1 (f.x2 ∷ ends_of held)) (apart q)).0),
        joining held (λ q. (or_parts (same_number e.x1 f.x2) (among e.x1 (ends_of held)) (or_parts (same_number e.x1 f.x1) (among e.x1 (f.x2 ∷ ends_of held)) (apart q)).1).1),
      )

sum_once_both : (c d : ℤ → ℕ) (xs : List ℤ) → sum_once (λ x. c x + d x) xs ≡ sum_once c xs + sum_once d xs
sum_once_both c d [] = refl
sum_once_both c d (x ∷ xs) = omega (arith, cond_sum (among x xs) (c x) (d x), sum_once_both c d xs)

abbrev pub square : ℕ → ℕ
square zero = 0
square (suc n) = square n + n + n + 1

pub square_rises : (n m : ℕ) → n ≤ m → square n ≤ square m
square_rises zero m l = omega arith
square_rises (suc n) zero l = absurd (omega arith)
square_rises (suc n) (suc m) l = let later = square_rises n m (omega arith) in omega arith

never_at_its_end : (e : EdgeRecord) → tally e e.x2 ≡ 0
never_at_its_end e = by (covers e e.x2) refl
  where
    by : (t : Bool) → covers e e.x2 ≡ t → ◌≡◌ {A = ℕ} (cond t 1 0) 0
    by false q = refl
    by true q = absurd (never (int_lt→<ℤ {a = e.x2} {b = e.x2} (and_parts (le_z e.x1 e.x2) (lt_z e.x2 e.x2) q).1))
      where
        never : e.x2 <ℤ e.x2 → ⊥
        never l = omega (arith, ints)

pub crowded : (held : List EdgeRecord) → sum_once (crowd held) (ends_of held) ≤ square (length held)
crowded [] = omega arith
crowded (e ∷ held) =
    let s = among e.x1 (e.x2 ∷ ends_of held) in
    let t = among e.x2 (ends_of held) in
    let join = joining e s t held (λ q. (or_parts (same_number e.x1 e.x2) (among e.x1 (ends_of held)) q).1) in
    omega (
      arith,
      crowded held,
      join,
      cond_sum s (tally e e.x1) (crowd held e.x1),
      cond_sum t (tally e e.x2) (crowd held e.x2),
      cond_at_most s (tally e e.x1),
      cond_at_most t (tally e e.x2),
      tally_one e e.x1,
      never_at_its_end e,
      sum_once_both (tally e) (crowd held) (ends_of held),
    )

-- the edges that cover each of some strictly rising ends, in all
pub crowds_in_all : (held : List EdgeRecord) (bounds : List ℤ) → Pairwise ◌<ℤ◌ bounds → AllByRecursion (ContainsAt (ends_of held)) bounds → sum_of (crowd held) bounds ≤ square (length held)
crowds_in_all held bounds r h =
    omega (arith, crowded held, sum_once_lem (crowd held) (ends_of held) bounds r (All-weaker (ContainsAt (ends_of held)) (λ b. among b (ends_of held) ≡ true) (λ b k. has→among (ends_of held) b k) bounds h))
