-- The entries of a stack: the first n of its places, newest first.
use Rattle.std.proofs.Common.{◌≡◌, ℕ, ◌+◌, ◌-◌, ◌<◌, ◌≤◌, true, false, ltb, List, [], ◌∷◌, reverse, length, get_or, take, set, sym, ap, ◌∙◌, arith}
use Rattle.std.proofs.lemmas.List.{length-reverse, length-take-le, reverse-append, take_more, take_more_set}
use Rattle.std.proofs.lemmas.Bool.{lt-ltb, le-ltb}

pub entries_length : {X : Type 0} (places : List X) (n : ℕ) → n ≤ length places → length (reverse (take n places)) ≡ n
entries_length places n within = length-reverse (take n places) ∙ length-take-le n places within

-- the test that a push makes
pub free_place : {X : Type 0} (places : List X) (n : ℕ) → n < length places
    → ltb (length (reverse (take n places))) (length places) ≡ true
free_place places n free =
    ap (λ k. ltb k (length places)) (entries_length places n (omega arith)) ∙ lt-ltb n (length places) free

pub no_free_place : {X : Type 0} (places : List X) (n : ℕ) → n ≤ length places → length places ≤ n
    → ltb (length (reverse (take n places))) (length places) ≡ false
no_free_place places n within full =
    ap (λ k. ltb k (length places)) (entries_length places n within) ∙ le-ltb n (length places) full

pub entries_pushed : {X : Type 0} (places : List X) (n : ℕ) (x : X) → n < length places
    → reverse (take (n + 1) (set places n x)) ≡ x ∷ reverse (take n places)
entries_pushed places n x free =
    ap reverse (take_more_set places n x free) ∙ reverse-append (take n places) (x ∷ [])

pub entries_popped : {X : Type 0} (places : List X) (n : ℕ) (d : X) → 0 < n → n ≤ length places
    → reverse (take n places) ≡ get_or places (n - 1) d ∷ reverse (take (n - 1) places)
entries_popped places n d some within =
    let back : n - 1 + 1 ≡ n = omega arith in
    ap (λ k. reverse (take k places)) (sym back)
    ∙ ap reverse (take_more places (n - 1) d (omega arith))
    ∙ reverse-append (take (n - 1) places) (get_or places (n - 1) d ∷ [])
