-- The words of a line from its first byte, or from its first word.
use Rattle.std.proofs.Common.{◌≡◌, ℕ, suc, ◌+◌, ◌-◌, ◌<◌, ◌≤◌, Bool, true, false, not, cond, ◌||◌, ◌⊎◌, List, [], ◌∷◌, ◌++◌, length, get_or, take, drop, Option, Some, None, nat_lt, sym, refl, ap, ◌∙◌, subst, inl, inr, arith}
use native.Mathlib.Nat.{sub-zero}
use Rattle.std.proofs.lemmas.List.{drop_more, length-drop, length-take-le, take_rest}
use Rattle.std.proofs.lemmas.List.Sums.{prefix_len-le-length}
use Rattle.std.proofs.lemmas.Bool.{both_ways, cond_both, ltb-false}
use Rattle.std.specs.List.{position_or_len}
use Rattle.std.specs.Option.{unwrap_or}
use Rattle.std.proofs.lemmas.Bool.Decides.{nat_tests}
use Rattle.script.specs.Words.{before_first, begins_comment, is_separator, pieces, uncommented, without_empty, words_of}

-- A separator begins no comment.
separator_apart : (c : ℕ) → is_separator c ≡ true → begins_comment c ≡ false
separator_apart c e = grind (arith, nat_tests)

-- pieces of a line without its comment
abbrev pub cut : List ℕ → List (List ℕ)
cut line = pieces (uncommented line)

pub cut_separator : (c : ℕ) (cs : List ℕ) → is_separator c ≡ true → cut (c ∷ cs) ≡ [] ∷ cut cs
cut_separator c cs e =
    ap (λ b. pieces (cond b [] (c ∷ uncommented cs))) (separator_apart c e)
    ∙ ap (λ b. cond b ([] ∷ cut cs) (before_first c (cut cs))) e

cut_comment : (c : ℕ) (cs : List ℕ) → begins_comment c ≡ true → cut (c ∷ cs) ≡ [] ∷ []
cut_comment c cs e = ap (λ b. pieces (cond b [] (c ∷ uncommented cs))) e

pub cut_plain : (c : ℕ) (cs : List ℕ) → is_separator c ≡ false → begins_comment c ≡ false → cut (c ∷ cs) ≡ before_first c (cut cs)
cut_plain c cs s e =
    ap (λ b. pieces (cond b [] (c ∷ uncommented cs))) e
    ∙ ap (λ b. cond b ([] ∷ cut cs) (before_first c (cut cs))) s

-- a word's bytes before the pieces of what follows them
abbrev pub onto : List ℕ → List (List ℕ) → List (List ℕ)
onto [] ps = ps
onto (c ∷ cs) ps = before_first c (onto cs ps)

pub onto_push : (w : List ℕ) (c : ℕ) (ps : List (List ℕ)) → onto w (before_first c ps) ≡ onto (w ++ c ∷ []) ps
onto_push [] c ps = refl
onto_push (x ∷ w) c ps = ap (before_first x) (onto_push w c ps)

pub onto_whole : (w : List ℕ) (ps : List (List ℕ)) → onto w ([] ∷ ps) ≡ w ∷ ps
onto_whole [] ps = refl
onto_whole (c ∷ w) ps = ap (before_first c) (onto_whole w ps)

-- At a line's end, a separator and a comment a word ends.
abbrev pub Ends : List ℕ → Type 0
Ends [] = Unit {0}
Ends (c ∷ cs) = (is_separator c ≡ true) ⊎ (begins_comment c ≡ true)

pub cut_end : (line : List ℕ) → Ends line → (ps : List (List ℕ)) × ((cut line ≡ [] ∷ ps) × (without_empty ps ≡ words_of line))
cut_end [] e = ([], (refl, refl))
cut_end (c ∷ cs) (inl e) = (cut cs, (cut_separator c cs e, ap without_empty (sym (cut_separator c cs e))))
cut_end (c ∷ cs) (inr e) = ([], (cut_comment c cs e, ap without_empty (sym (cut_comment c cs e))))

pub words_of_word : (line w rest : List ℕ) → 0 < length w → cut line ≡ onto w (cut rest) → Ends rest → words_of line ≡ w ∷ words_of rest
words_of_word line [] rest some e ends = absurd (omega arith)
words_of_word line (c ∷ w) rest some e ends =
    let p = cut_end rest ends in
    ap without_empty (e ∙ (ap (onto (c ∷ w)) p.1.0 ∙ onto_whole (c ∷ w) p.0))
    ∙ ap (λ ps. (c ∷ w) ∷ ps) p.1.1

-- The place of the first byte of a kind, or the line's length.
pub found_or_len : (p : ℕ → Bool) (line : List ℕ) (found : Option ℕ) → found ≡ cond (nat_lt (position_or_len p line) (length line)) (Some (position_or_len p line)) None → unwrap_or found (length line) ≡ position_or_len p line
found_or_len p line found e =
    ap (λ o. unwrap_or o (length line)) e
    ∙ cond_both (nat_lt (position_or_len p line) (length line)) (Some (position_or_len p line)) None (λ o. unwrap_or o (length line) ≡ position_or_len p line)
    (λ _. refl) (λ past. omega (arith, ltb-false _ _ past, prefix_len-le-length (λ c. not (p c)) line))

one_more : (n : ℕ) → 1 + n ≡ suc n
one_more n = omega arith

-- Where the separators end that a line begins with.
pub separators_skipped : (line : List ℕ) → words_of line ≡ words_of (drop (position_or_len (λ c. not (is_separator c)) line) line)
separators_skipped [] = refl
separators_skipped (c ∷ cs) = go (is_separator c) refl (separators_skipped cs)
  where
    go : (b : Bool) → is_separator c ≡ b → words_of cs ≡ words_of (drop (position_or_len (λ d. not (is_separator d)) cs) cs) → words_of (c ∷ cs) ≡ words_of (drop (cond (not (not b)) (1 + position_or_len (λ d. not (is_separator d)) cs) 0) (c ∷ cs))
    go true e later = rw one_more (ap without_empty (cut_separator c cs e) ∙ later)
    go false e later = refl

-- Where the word ends that a line begins with.
abbrev pub ends_word : ℕ → Bool
ends_word c = is_separator c || begins_comment c

abbrev pub word_end : List ℕ → ℕ
word_end line = position_or_len ends_word line

pub word_cut : (line : List ℕ) → cut line ≡ onto (take (word_end line) line) (cut (drop (word_end line) line))
word_cut [] = refl
word_cut (c ∷ cs) = go (ends_word c) refl (word_cut cs)
  where
    go : (b : Bool) → ends_word c ≡ b → cut cs ≡ onto (take (word_end cs) cs) (cut (drop (word_end cs) cs)) → cut (c ∷ cs) ≡ onto (take (cond (not b) (1 + word_end cs) 0) (c ∷ cs)) (cut (drop (cond (not b) (1 + word_end cs) 0) (c ∷ cs)))
    go true e later = refl
    go false e later = rw one_more (cut_plain c cs (grind (arith, nat_tests)) (grind (arith, nat_tests)) ∙ ap (before_first c) later)

ends_here : (c : ℕ) → ends_word c ≡ true → (is_separator c ≡ true) ⊎ (begins_comment c ≡ true)
ends_here c e = go (is_separator c) refl e
  where
    go : (b : Bool) → is_separator c ≡ b → (b || begins_comment c) ≡ true → (is_separator c ≡ true) ⊎ (begins_comment c ≡ true)
    go true s h = inl s
    go false s h = inr h

pub word_stops : (line : List ℕ) → Ends (drop (word_end line) line)
word_stops [] = tt
word_stops (c ∷ cs) = go (ends_word c) refl (word_stops cs)
  where
    go : (b : Bool) → ends_word c ≡ b → Ends (drop (word_end cs) cs) → Ends (drop (cond (not b) (1 + word_end cs) 0) (c ∷ cs))
    go true e later = ends_here c e
    go false e later = rw one_more later

pub first_word : (line : List ℕ) → 0 < word_end line → words_of line ≡ take (word_end line) line ∷ words_of (drop (word_end line) line)
first_word line some =
    words_of_word line (take (word_end line) line) (drop (word_end line) line) (omega (arith, length-take-le (word_end line) line (prefix_len-le-length (λ c. not (ends_word c)) line))) (word_cut line) (word_stops line)

no_word_here : (line : List ℕ) → (0 < length line → is_separator (get_or line 0 0) ≡ false) → Ends line → words_of line ≡ []
no_word_here [] plain ends = refl
no_word_here (c ∷ cs) plain (inl e) = absurd (both_ways (is_separator c) (plain (omega arith)) e)
no_word_here (c ∷ cs) plain (inr e) = ap without_empty (cut_comment c cs e)

pub no_word : (line : List ℕ) → word_end line ≡ 0 → (0 < length line → is_separator (get_or line 0 0) ≡ false) → words_of line ≡ []
no_word line e plain = no_word_here line plain (subst (λ (n : ℕ). Ends (drop n line)) e (word_stops line))

-- The parts that a reader cuts from a line.
pub first_kept : (line : List ℕ) (start : ℕ) → start ≤ length line → (start < length line → is_separator (get_or line start 0) ≡ false) → 0 < length (take (length line - start) (drop start line)) → is_separator (get_or (take (length line - start) (drop start line)) 0 0) ≡ false
first_kept line start within stops h =
    let start-within : start < length line = omega (arith, ap length (take_rest line start), length-drop start line) in
    ap (λ cs. is_separator (get_or cs 0 0)) (take_rest line start ∙ drop_more line start 0 start-within) ∙ stops start-within

pub none_from : (line : List ℕ) (start : ℕ) → words_of line ≡ words_of (drop start line) → words_of (take (length line - start) (drop start line)) ≡ [] → words_of line ≡ []
none_from line start skips none = skips ∙ (ap words_of (sym (take_rest line start)) ∙ none)

pub word_from : (line from : List ℕ) (start n : ℕ) → from ≡ take (length line - start) (drop start line) → words_of line ≡ words_of (drop start line) → words_of from ≡ take n from ∷ words_of (drop n from) → words_of line ≡ take (n - 0) from ∷ words_of (take (length from - n) (drop n from))
word_from line from start n e skips some =
    skips
    ∙ (ap words_of (sym (e ∙ take_rest line start))
    ∙ (some ∙ ap (λ w. w ∷ words_of (drop n from)) (ap (λ m. take m from) (sym (sub-zero n)))
    ∙ ap (λ cs. take (n - 0) from ∷ words_of cs) (sym (take_rest from n))))
