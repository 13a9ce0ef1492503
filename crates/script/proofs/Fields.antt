-- Numbers of a line, and one after another.
use Rattle.std.proofs.Common.{◌≡◌, ℕ, ◌+◌, ◌<◌, List, [], ◌∷◌, ◌++◌, length, get_or, take, drop, pos, codes, sym, refl, ap, ◌∙◌, arith}
use Rattle.std.proofs.lemmas.List.{append_assoc, append-nil, take_more, take-append-drop, drop_more}
use Rattle.std.specs.List.{flat_map}
use Rattle.script.specs.Lines.{field, line_of_sites}

joined_append : {X : Type 0} (f : X → List ℕ) (xs ys : List X) → flat_map f (xs ++ ys) ≡ flat_map f xs ++ flat_map f ys
joined_append f [] ys = refl
joined_append f (x ∷ xs) ys = ap (λ zs. f x ++ zs) (joined_append f xs ys) ∙ sym (append_assoc (f x) (flat_map f xs) (flat_map f ys))

pub joined_take : {X : Type 0} (f : X → List ℕ) (xs : List X) (i : ℕ) (d : X) → i < length xs → flat_map f (take (i + 1) xs) ≡ flat_map f (take i xs) ++ f (get_or xs i d)
joined_take f xs i d h =
    ap (flat_map f) (take_more xs i d h)
    ∙ (joined_append f (take i xs) (get_or xs i d ∷ []) ∙ ap (λ zs. flat_map f (take i xs) ++ zs) (append-nil (f (get_or xs i d))))

pub joined_split : {X : Type 0} (f : X → List ℕ) (xs : List X) (i : ℕ) (d : X) → i < length xs → flat_map f xs ≡ (flat_map f (take i xs) ++ f (get_or xs i d)) ++ flat_map f (drop (i + 1) xs)
joined_split f xs i d h =
    ap (flat_map f) (sym (take-append-drop i xs))
    ∙ (joined_append f (take i xs) (drop i xs)
    ∙ (ap (λ zs. flat_map f (take i xs) ++ flat_map f zs) (drop_more xs i d h)
    ∙ sym (append_assoc (flat_map f (take i xs)) (f (get_or xs i d)) (flat_map f (drop (i + 1) xs)))))

pub some_sites : (ns : List ℕ) → 0 < length ns → line_of_sites ns ≡ codes "sites" ++ flat_map (λ m. field (pos m)) ns
some_sites [] h = absurd (omega arith)
some_sites (n ∷ ns) h = refl
