-- Going down a bush by a test finds the last element that passes it, if no element passes it after one that does not.
-- Assumes nothing.
use Rattle.std.proofs.Common.{◌≡◌, Bool, true, false, cond, List, [], ◌∷◌, ◌++◌, sym, refl, ap, ◌∙◌}
use Rattle.std.specs.List.{AllByRecursion}
use Rattle.std.proofs.lemmas.Bool.{cond-false}
use Rattle.slabs.proofs.Pairwise.{Pairwise}
use Rattle.zone_figure.specs.Halving.{Bush, bare, fork}
use Rattle.zone_figure.proofs.Halving.{elements}

pub pairwise_front : {X : Type 0} (R : X → X → Type 0) (xs ys : List X) → Pairwise R (xs ++ ys) → Pairwise R xs
pairwise_front R [] ys h = tt
pairwise_front R (x ∷ xs) ys h = (all_front xs h.0, pairwise_front R xs ys h.1)
  where
    all_front : (zs : List _) → AllByRecursion (R x) (zs ++ ys) → AllByRecursion (R x) zs
    all_front [] k = tt
    all_front (z ∷ zs) k = (k.0, all_front zs k.1)

pub pairwise_back : {X : Type 0} (R : X → X → Type 0) (xs ys : List X) → Pairwise R (xs ++ ys) → Pairwise R ys
pairwise_back R [] ys h = h
pairwise_back R (x ∷ xs) ys h = pairwise_back R xs ys h.1

module _ {X G : Type 0} (test : X → Bool) (over : X → G) where
  -- what stands over the element found, or over none
  abbrev pub found : G → Bush X → G
  found ground bare = ground
  found ground (fork low x high) = cond (test x) (found (over x) high) (found ground low)

  abbrev pub over_last : G → List X → G
  over_last ground [] = ground
  over_last ground (x ∷ xs) = over_last (cond (test x) (over x) ground) xs

  over_last_append : (ground : G) (xs ys : List X) → over_last ground (xs ++ ys) ≡ over_last (over_last ground xs) ys
  over_last_append ground [] ys = refl
  over_last_append ground (x ∷ xs) ys = over_last_append (cond (test x) (over x) ground) xs ys

  pub over_last_none : (ground : G) (xs : List X) → AllByRecursion (λ x. test x ≡ false) xs → over_last ground xs ≡ ground
  over_last_none ground [] h = refl
  over_last_none ground (x ∷ xs) h =
      ap (λ g. over_last g xs) (cond-false (test x) (over x) ground h.0) ∙ over_last_none ground xs h.1

  -- once failed, failed for good
  abbrev pub Fails : X → X → Type 0
  Fails x y = test x ≡ false → test y ≡ false

  none_after : (x : X) (xs : List X) → AllByRecursion (Fails x) xs → test x ≡ false → AllByRecursion (λ y. test y ≡ false) xs
  none_after x [] h f = tt
  none_after x (y ∷ ys) h f = (h.0 f, none_after x ys h.1 f)

  pub found_is_last : (bush : Bush X) (ground : G) → Pairwise Fails (elements bush) → found ground bush ≡ over_last ground (elements bush)
  found_is_last bare ground h = refl
  found_is_last (fork low x high) ground h =
      let back = pairwise_back Fails (elements low) (x ∷ elements high) h in
      by (test x) refl back
      (found_is_last high (over x) back.1)
      (found_is_last low ground (pairwise_front Fails (elements low) (x ∷ elements high) h))
      ∙ sym (over_last_append ground (elements low) (x ∷ elements high))
    where
      by : (t : Bool) → test x ≡ t → Pairwise Fails (x ∷ elements high)
          → found (over x) high ≡ over_last (over x) (elements high)
          → found ground low ≡ over_last ground (elements low)
          → cond t (found (over x) high) (found ground low) ≡ over_last (cond t (over x) (over_last ground (elements low))) (elements high)
      by true e back up down = up
      by false e back up down =
          down ∙ sym (over_last_none (over_last ground (elements low)) (elements high) (none_after x (elements high) back.0 e))
