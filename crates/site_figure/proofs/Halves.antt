-- Trees made by halving: their leaves, that more halvings change nothing, how high they are and how many leaves they have.
use Rattle.std.proofs.Common.{◌≡◌, ℕ, zero, suc, ◌+◌, ◌≤◌, max, List, [], ◌∷◌, ◌++◌, length, refl, ap, ◌∙◌, arith}
use Rattle.std.proofs.lemmas.List.{take-append-drop, length-take, length-drop, length-append}
use Rattle.site_figure.specs.Halving.{Tree, none, one, both, half, left_half, right_half, halved, tree_of, leaves_of}

abbrev pub two_to : ℕ → ℕ
two_to zero = 1
two_to (suc k) = two_to k + two_to k

two_to_some : (k : ℕ) → 1 ≤ two_to k
two_to_some zero = omega arith
two_to_some (suc k) = omega (arith, two_to_some k)

two_to_rises : (j k : ℕ) → j ≤ k → two_to j ≤ two_to k
two_to_rises zero k h = two_to_some k
two_to_rises (suc j) zero h = absurd (omega arith)
two_to_rises (suc j) (suc k) h = omega (arith, two_to_rises j k (omega arith))

module _ {X : Type 0} where
  length_left : (x y : X) (zs : List X) → length (left_half (x ∷ y ∷ zs)) ≡ half (length (x ∷ y ∷ zs))
  length_left x y zs = length-take (half (length (x ∷ y ∷ zs))) (x ∷ y ∷ zs) ∙ omega arith

  length_right : (x y : X) (zs : List X) → length (right_half (x ∷ y ∷ zs)) + half (length (x ∷ y ∷ zs)) ≡ length (x ∷ y ∷ zs)
  length_right x y zs = omega (arith, length-drop (half (length (x ∷ y ∷ zs))) (x ∷ y ∷ zs))

  leaves_halved : (times : ℕ) (xs : List X) → length xs ≤ suc times → leaves_of (halved times xs) ≡ xs
  leaves_halved times [] h = refl
  leaves_halved times (x ∷ []) h = refl
  leaves_halved zero (x ∷ y ∷ zs) h = absurd (omega arith)
  leaves_halved (suc times) (x ∷ y ∷ zs) h =
      let xs : List X = x ∷ y ∷ zs in
      ap (λ t. t ++ leaves_of (halved times (right_half xs))) (leaves_halved times (left_half xs) (omega (arith, length_left x y zs)))
      ∙ ap (λ t. left_half xs ++ t) (leaves_halved times (right_half xs) (omega (arith, length_right x y zs)))
      ∙ take-append-drop (half (length xs)) xs

  -- the leaves of a list's tree are the list
  pub leaves_tree_of : (xs : List X) → leaves_of (tree_of xs) ≡ xs
  leaves_tree_of xs = leaves_halved (length xs) xs (omega arith)

  more_halvings : (m n : ℕ) (xs : List X) → length xs ≤ suc m → length xs ≤ suc n → halved m xs ≡ halved n xs
  more_halvings m n [] h k = refl
  more_halvings m n (x ∷ []) h k = refl
  more_halvings zero n (x ∷ y ∷ zs) h k = absurd (omega arith)
  more_halvings (suc m) zero (x ∷ y ∷ zs) h k = absurd (omega arith)
  more_halvings (suc m) (suc n) (x ∷ y ∷ zs) h k =
      let xs : List X = x ∷ y ∷ zs in
      ap (λ t. both t (halved m (right_half xs)))
      (more_halvings m n (left_half xs) (omega (arith, length_left x y zs)) (omega (arith, length_left x y zs)))
      ∙ ap (λ t. both (halved n (left_half xs)) t)
      (more_halvings m n (right_half xs) (omega (arith, length_right x y zs)) (omega (arith, length_right x y zs)))

  -- a list of two or more has the trees of its halves
  pub tree_of_halves : (xs : List X) → 2 ≤ length xs → tree_of xs ≡ both (tree_of (left_half xs)) (tree_of (right_half xs))
  tree_of_halves [] h = absurd (omega arith)
  tree_of_halves (x ∷ []) h = absurd (omega arith)
  tree_of_halves (x ∷ y ∷ zs) h =
      let xs : List X = x ∷ y ∷ zs in
      let m : ℕ = suc (length zs) in
      ap (λ t. both t (halved m (right_half xs)))
      (more_halvings m (length (left_half xs)) (left_half xs) (omega (arith, length_left x y zs)) (omega arith))
      ∙ ap (λ t. both (tree_of (left_half xs)) t)
      (more_halvings m (length (right_half xs)) (right_half xs) (omega (arith, length_right x y zs)) (omega arith))

  -- how many forks are above the lowest leaf
  abbrev pub height : Tree X → ℕ
  height none = 0
  height (one x) = 0
  height (both l r) = suc (max (height l) (height r))

  height_halved : (k times : ℕ) (xs : List X) → length xs ≤ two_to k → height (halved times xs) ≤ k
  height_halved k times [] h = omega arith
  height_halved k times (x ∷ []) h = omega arith
  height_halved k zero (x ∷ y ∷ zs) h = omega arith
  height_halved zero (suc times) (x ∷ y ∷ zs) h = absurd (omega arith)
  height_halved (suc k) (suc times) (x ∷ y ∷ zs) h =
      let xs : List X = x ∷ y ∷ zs in
      let low = height_halved k times (left_half xs) (omega (arith, length_left x y zs)) in
      let high = height_halved k times (right_half xs) (omega (arith, length_right x y zs)) in omega arith

  pub height_tree_of : (k : ℕ) (xs : List X) → length xs ≤ two_to k → height (tree_of xs) ≤ k
  height_tree_of k xs h = height_halved k (length xs) xs h

  pub leaves_below_height : (t : Tree X) → length (leaves_of t) ≤ two_to (height t)
  leaves_below_height none = omega arith
  leaves_below_height (one x) = omega arith
  leaves_below_height (both l r) =
      let left = two_to_rises (height l) (max (height l) (height r)) (omega arith) in
      let right = two_to_rises (height r) (max (height l) (height r)) (omega arith) in
      omega (arith, length-append (leaves_of l) (leaves_of r), leaves_below_height l, leaves_below_height r)

  -- how many leaves there are, a leaf without element counted too
  abbrev pub leaf_count : Tree X → ℕ
  leaf_count none = 1
  leaf_count (one x) = 1
  leaf_count (both l r) = leaf_count l + leaf_count r

  pub leaf_count_some : (t : Tree X) → 1 ≤ leaf_count t
  leaf_count_some none = omega arith
  leaf_count_some (one x) = omega arith
  leaf_count_some (both l r) = omega (arith, leaf_count_some l)

  pub leaves_below_count : (t : Tree X) → length (leaves_of t) ≤ leaf_count t
  leaves_below_count none = omega arith
  leaves_below_count (one x) = omega arith
  leaves_below_count (both l r) =
      omega (arith, length-append (leaves_of l) (leaves_of r), leaves_below_count l, leaves_below_count r)

  leaf_count_halved : (times : ℕ) (xs : List X) → leaf_count (halved times xs) ≤ max 1 (length xs)
  leaf_count_halved times [] = omega arith
  leaf_count_halved times (x ∷ []) = omega arith
  leaf_count_halved zero (x ∷ y ∷ zs) = omega arith
  leaf_count_halved (suc times) (x ∷ y ∷ zs) =
      let xs : List X = x ∷ y ∷ zs in
      omega (arith, leaf_count_halved times (left_half xs), leaf_count_halved times (right_half xs), length_left x y zs, length_right x y zs)

  pub leaf_count_tree_of : (xs : List X) → leaf_count (tree_of xs) ≤ max 1 (length xs)
  leaf_count_tree_of xs = leaf_count_halved (length xs) xs
