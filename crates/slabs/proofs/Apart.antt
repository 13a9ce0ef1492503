-- Records that do not conflict: any two of them, one more, one less.
-- Assumes nothing.
use Rattle.std.proofs.Common.{◌≡◌, Bool, false, ◌⊎◌, List, [], ◌∷◌, ◌++◌, filter, sym, ◌∙◌, subst, inl, inr, ⊎_elim}
use Rattle.std.specs.List.{ContainsAt, AllByRecursion}
use Rattle.std.specs.List.Sorted.{IsPermutation}
use Rattle.std.proofs.ByRecursion.{all-has, all_kept_by, all_shuffled}
use Rattle.std.proofs.lemmas.Bool.{cond_both}
use Rattle.records.specs.declared.raw.EdgeRecord.{EdgeRecord}
use Rattle.geometry.specs.Conflict.{conflict}
use Rattle.slabs.specs.Topmost.{Wide, Apart}
use Rattle.slabs.proofs.Symmetry.{conflict_symmetric}
use Rattle.slabs.proofs.Elements.{has_cases, has_none}
use Rattle.slabs.proofs.Pairwise.{Pairwise, pairwise_shuffled}

pub all_wide : (records : List EdgeRecord) → Apart records → AllByRecursion Wide records
all_wide [] a = tt
all_wide (e ∷ records) a = (a.0, all_wide records a.2)

-- any two records are one, or do not conflict
pub same_or_apart : (records : List EdgeRecord) (e f : EdgeRecord) → Apart records → ContainsAt records e → ContainsAt records f → (e ≡ f) ⊎ (conflict e f ≡ false)
same_or_apart [] e f a h k = absurd (has_none e h)
same_or_apart (r ∷ records) e f a h k =
    ⊎_elim (λ p. ⊎_elim (λ q. inl (sym p ∙ q)) (λ q. inr (subst (λ z. conflict z f ≡ false) p (from f q))) (has_cases r records f k))
    (λ p. ⊎_elim (λ q. inr (subst (λ z. conflict e z ≡ false) q (conflict_symmetric r e ∙ from e p))) (λ q. same_or_apart records e f a.2 p q) (has_cases r records f k))
    (has_cases r records e h)
  where
    from : (z : EdgeRecord) → ContainsAt records z → conflict r z ≡ false
    from z q = all-has (λ y. conflict r y ≡ false) records z a.1 q

-- ---- one more, at any place
all_placed : (P : EdgeRecord → Type 0) (front back : List EdgeRecord) (e : EdgeRecord) → P e → AllByRecursion P (front ++ back) → AllByRecursion P (front ++ e ∷ back)
all_placed P [] back e p h = (p, h)
all_placed P (r ∷ front) back e p h = (h.0, all_placed P front back e p h.1)

pub apart_placed : (front back : List EdgeRecord) (e : EdgeRecord) → Wide e → AllByRecursion (λ f. conflict e f ≡ false) (front ++ back) → Apart (front ++ back) → Apart (front ++ e ∷ back)
apart_placed [] back e wide none a = (wide, none, a)
apart_placed (r ∷ front) back e wide none a =
    (a.0, all_placed (λ f. conflict r f ≡ false) front back e (conflict_symmetric e r ∙ none.0) a.1, apart_placed front back e wide none.1 a.2)

-- ---- one less
all_removed : (P : EdgeRecord → Type 0) (front back : List EdgeRecord) (e : EdgeRecord) → AllByRecursion P (front ++ e ∷ back) → AllByRecursion P (front ++ back)
all_removed P [] back e h = h.1
all_removed P (r ∷ front) back e h = (h.0, all_removed P front back e h.1)

pub apart_removed : (front back : List EdgeRecord) (e : EdgeRecord) → Apart (front ++ e ∷ back) → Apart (front ++ back)
apart_removed [] back e a = a.2
apart_removed (r ∷ front) back e a = (a.0, all_removed (λ f. conflict r f ≡ false) front back e a.1, apart_removed front back e a.2)

-- ---- some of them, and in any order
abbrev Clear : EdgeRecord → EdgeRecord → Type 0
Clear e f = conflict e f ≡ false

pub apart_kept : (test : EdgeRecord → Bool) (records : List EdgeRecord) → Apart records → Apart (filter test records)
apart_kept test [] a = tt
apart_kept test (e ∷ records) a =
    let later = apart_kept test records a.2 in
    cond_both (test e) (e ∷ filter test records) (filter test records) Apart (λ _. (a.0, all_kept_by test (Clear e) records a.1, later)) (λ _. later)

apart→pairwise : (records : List EdgeRecord) → Apart records → Pairwise Clear records
apart→pairwise [] a = tt
apart→pairwise (e ∷ records) a = (a.1, apart→pairwise records a.2)

pairwise→apart : (records : List EdgeRecord) → AllByRecursion Wide records → Pairwise Clear records → Apart records
pairwise→apart [] w p = tt
pairwise→apart (e ∷ records) w p = (w.0, p.0, pairwise→apart records w.1 p.1)

pub apart_shuffled : (records shuffled : List EdgeRecord) → IsPermutation records shuffled → Apart records → Apart shuffled
apart_shuffled records shuffled s a = pairwise→apart shuffled (all_shuffled Wide records shuffled s (all_wide records a))
    (pairwise_shuffled Clear (λ e f h. conflict_symmetric e f ∙ h) records shuffled s (apart→pairwise records a))
