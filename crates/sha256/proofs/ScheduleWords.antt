-- The schedule's words, each from those before it.
use Rattle.std.proofs.Common.{◌≡◌, ℕ, zero, suc, ◌+◌, ◌-◌, ◌<◌, ◌≤◌, ltb, List, [], ◌∷◌, length, get_or, sym, refl, ◌∙◌, inl, inr, arith}
use Rattle.std.proofs.lemmas.List.{length_push, get_or_push, get_or_append_left}
use Rattle.std.proofs.lemmas.Bool.{cases_lt, lt-ltb, le-ltb, cond-true, cond-false}
use Rattle.sha256.specs.Compression.{word_of, expand, next_word, schedule}

pub length_schedule : (block : List ℕ) (t : ℕ) → length (schedule block t) ≡ t
unfolding schedule
length_schedule block zero = refl
length_schedule block (suc t) =
    let more = length_push (schedule block t) (next_word block t (schedule block t)) in
    let before = length_schedule block t in
    omega arith

-- A word of the schedule, whichever number of words it is read from.
pub word_is : (block : List ℕ) (n i : ℕ) → i < n → get_or (schedule block n) i 0 ≡ next_word block i (schedule block i)
unfolding schedule
word_is block zero i within = absurd (omega arith)
word_is block (suc n) i within =
    elim (cases_lt i n) [
      | inl below ↦
          (let long = length_schedule block n in
          get_or_append_left (schedule block n) (next_word block n (schedule block n) ∷ []) 0 i (omega arith)) ∙
          word_is block n i below
      | inr above ↦
          (let same : i ≡ n = omega arith in
          rw same (get_or_push (schedule block n) (next_word block n (schedule block n)) 0 n (length_schedule block n)))
    ]

-- The words of the block itself.
pub own_word : (block : List ℕ) (i : ℕ) → i < 16 → get_or (schedule block 64) i 0 ≡ word_of block i
unfolding next_word
own_word block i small =
    word_is block 64 i (omega arith) ∙ cond-true (ltb i 16) _ _ (lt-ltb i 16 small)

earlier : (block : List ℕ) (i j : ℕ) → j < i → i < 64 → get_or (schedule block i) j 0 ≡ get_or (schedule block 64) j 0
earlier block i j before within = word_is block i j before ∙ sym (word_is block 64 j (omega arith))

-- A later word, from the words 2, 7, 15 and 16 places before it.
pub later_word : (block : List ℕ) (i : ℕ) → 16 ≤ i → i < 64 → get_or (schedule block 64) i 0 ≡ expand (get_or (schedule block 64) (i - 2) 0) (get_or (schedule block 64) (i - 7) 0) (get_or (schedule block 64) (i - 15) 0) (get_or (schedule block 64) (i - 16) 0)
unfolding next_word
later_word block i large within =
    let e2 = earlier block i (i - 2) (omega arith) within in
    let e7 = earlier block i (i - 7) (omega arith) within in
    let e15 = earlier block i (i - 15) (omega arith) within in
    let e16 = earlier block i (i - 16) (omega arith) within in
    word_is block 64 i within ∙ cond-false (ltb i 16) _ _ (le-ltb i 16 large) ∙
    simp (e2, e7, e15, e16)

-- The same, as the code makes the word `made`: from the words a, b, c and d at their places.
pub expanded_is : (block : List ℕ) (i p q r s : ℕ) (made a b c d : ℕ) → i < 64 → p + 2 ≡ i → q + 7 ≡ i → r + 15 ≡ i → s + 16 ≡ i → a ≡ get_or (schedule block 64) p 0 → b ≡ get_or (schedule block 64) q 0 → c ≡ get_or (schedule block 64) r 0 → d ≡ get_or (schedule block 64) s 0 → made ≡ expand a b c d → made ≡ get_or (schedule block 64) i 0
expanded_is block i p q r s made a b c d within is2 is7 is15 is16 ea eb ec ed is =
    let p-is : i - 2 ≡ p = omega arith in
    let q-is : i - 7 ≡ q = omega arith in
    let r-is : i - 15 ≡ r = omega arith in
    let s-is : i - 16 ≡ s = omega arith in
    let whole = later_word block i (omega arith) within in
    is ∙ simp (ea, eb, ec, ed) (sym (simp (p-is, q-is, r-is, s-is) at whole))
