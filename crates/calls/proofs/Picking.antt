-- Elements at the places of longer lists, and of lists that are picked themselves.
use Rattle.std.proofs.Common.{◌≡◌, ℕ, zero, suc, ◌<◌, List, [], ◌∷◌, ◌++◌, map, length, Some, None, Option, sym, refl, ap, ◌∙◌, arith}
use Rattle.std.specs.Option.{option_map}
use Rattle.std.specs.List.{slice_get, AllByRecursion}
use Rattle.search.specs.Picks.{ahead, picks}
use Rattle.search.proofs.Places.{not_both, some_same, ahead_append}

pub nth_there : {X : Type 0} (xs : List X) (i : ℕ) → i < length xs → (x : X) × (slice_get xs i ≡ Some x)
nth_there [] i h = absurd (omega arith)
nth_there (x ∷ xs) zero h = (x, refl)
nth_there (x ∷ xs) (suc i) h = nth_there xs i (omega arith)

pub nth_left : {X : Type 0} (xs ys : List X) (i : ℕ) → i < length xs → slice_get (xs ++ ys) i ≡ slice_get xs i
nth_left [] ys i h = absurd (omega arith)
nth_left (x ∷ xs) ys zero h = refl
nth_left (x ∷ xs) ys (suc i) h = nth_left xs ys i (omega arith)

pub nth_map : {X Y : Type 0} (f : X → Y) (xs : List X) (i : ℕ) → slice_get (map f xs) i ≡ option_map f (slice_get xs i)
nth_map f [] i = refl
nth_map f (x ∷ xs) zero = refl
nth_map f (x ∷ xs) (suc i) = nth_map f xs i

pub all_from_nth : {X : Type 0} (P : X → Type 0) (xs : List X) → ((i : ℕ) (x : X) → slice_get xs i ≡ Some x → P x) → AllByRecursion P xs
all_from_nth P [] h = tt
all_from_nth P (x ∷ xs) h = (h 0 x refl, all_from_nth P xs (λ i y at. h (suc i) y at))

pub picks_cons : {X : Type 0} (xs : List X) (p : ℕ) (ps : List ℕ) (x : X) → slice_get xs p ≡ Some x → picks xs (p ∷ ps) ≡ x ∷ picks xs ps
picks_cons xs p ps x h = ap (λ (o : Option _). ahead o (picks xs ps)) h

pub picks_left : {X : Type 0} (xs ys : List X) (ps : List ℕ) → AllByRecursion (λ p. p < length xs) ps → picks (xs ++ ys) ps ≡ picks xs ps
picks_left xs ys [] h = refl
picks_left xs ys (p ∷ ps) h =
    let first = nth_left xs ys p h.0 in
    let rest = picks_left xs ys ps h.1 in
    λ i. ahead (first i) (rest i)

pub picks_append : {X : Type 0} (xs : List X) (ps qs : List ℕ) → picks xs (ps ++ qs) ≡ picks xs ps ++ picks xs qs
picks_append xs [] qs = refl
picks_append xs (p ∷ ps) qs = ap (ahead (slice_get xs p)) (picks_append xs ps qs) ∙ sym (ahead_append (slice_get xs p) (picks xs ps) (picks xs qs))

-- the element picked for the place at a way
nth_picks : {X : Type 0} (xs : List X) (ps : List ℕ) (w p : ℕ) → AllByRecursion (λ q. q < length xs) ps → slice_get ps w ≡ Some p → slice_get (picks xs ps) w ≡ slice_get xs p
nth_picks xs [] w p h at = absurd (not_both p at)
nth_picks xs (q ∷ ps) zero p h at =
    let x = nth_there xs q h.0 in
    ap (λ (t : List _). slice_get t 0) (picks_cons xs q ps x.0 x.1) ∙ sym x.1 ∙ ap (slice_get xs) (some_same q p at)
nth_picks xs (q ∷ ps) (suc w) p h at =
    let x = nth_there xs q h.0 in
    ap (λ (t : List _). slice_get t (suc w)) (picks_cons xs q ps x.0 x.1) ∙ nth_picks xs ps w p h.1 at

nth_picks_none : {X : Type 0} (xs : List X) (ps : List ℕ) (w : ℕ) → AllByRecursion (λ q. q < length xs) ps → slice_get ps w ≡ None → slice_get (picks xs ps) w ≡ None
nth_picks_none xs [] w h at = refl
nth_picks_none xs (q ∷ ps) zero h at = absurd (not_both q (sym at))
nth_picks_none xs (q ∷ ps) (suc w) h at =
    let x = nth_there xs q h.0 in
    ap (λ (t : List _). slice_get t (suc w)) (picks_cons xs q ps x.0 x.1) ∙ nth_picks_none xs ps w h.1 at

-- what is picked by picked places is picked from what the places pick
pub picks_picks : {X : Type 0} (xs : List X) (ps ws : List ℕ) → AllByRecursion (λ p. p < length xs) ps → picks xs (picks ps ws) ≡ picks (picks xs ps) ws
picks_picks xs ps [] h = refl
picks_picks xs ps (w ∷ ws) h = go (slice_get ps w) refl (picks_picks xs ps ws h)
  where
    go : (o : Option ℕ) → slice_get ps w ≡ o → picks xs (picks ps ws) ≡ picks (picks xs ps) ws → picks xs (ahead o (picks ps ws)) ≡ ahead (slice_get (picks xs ps) w) (picks (picks xs ps) ws)
    go None at rest = rest ∙ ap (λ (o : Option _). ahead o (picks (picks xs ps) ws)) (sym (nth_picks_none xs ps w h at))
    go (Some p) at rest =
        let first = sym (nth_picks xs ps w p h at) in
        λ i. ahead (first i) (rest i)
