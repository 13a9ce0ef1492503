-- The tree of a sorted list: what holds of each of its leaves, and how high it is.
use Rattle.std.proofs.Common.{◌≤◌, Bool, List, [], ◌∷◌, ◌++◌, length, arith}
use Rattle.std.specs.List.{AllByRecursion}
use Rattle.std.proofs.ByRecursion.{all_shuffled}
use Rattle.slices.specs.Order.{sorted}
use Rattle.slices.proofs.SortedLists.{shuffled_sorted, length_sorted}
use Rattle.site_figure.specs.Halving.{Tree, tree_of, leaves_of}
use Rattle.site_figure.proofs.Halves.{leaves_tree_of, height, height_tree_of, leaves_below_height}

module _ {X : Type 0} (P : X → Type 0) where
  pub all_left : (xs ys : List X) → AllByRecursion P (xs ++ ys) → AllByRecursion P xs
  all_left [] ys h = tt
  all_left (x ∷ xs) ys h = (h.0, all_left xs ys h.1)

  pub all_right : (xs ys : List X) → AllByRecursion P (xs ++ ys) → AllByRecursion P ys
  all_right [] ys h = h
  all_right (x ∷ xs) ys h = all_right xs ys h.1

  pub all_sorted_leaves : (at_most : X → X → Bool) (xs : List X) → AllByRecursion P xs → AllByRecursion P (leaves_of (tree_of (sorted at_most xs)))
  all_sorted_leaves at_most xs h =
      rw (leaves_tree_of (sorted at_most xs)) (all_shuffled P xs (sorted at_most xs) (shuffled_sorted at_most xs) h)

-- the tree of the sorted leaves of a tree is no higher
pub height_sorted_leaves : {X : Type 0} (at_most : X → X → Bool) (t : Tree X) → height (tree_of (sorted at_most (leaves_of t))) ≤ height t
height_sorted_leaves at_most t =
    height_tree_of (height t) (sorted at_most (leaves_of t)) (omega (arith, length_sorted at_most (leaves_of t), leaves_below_height t))

-- the tree of at most 128 elements, sorted, has at most seven forks above its lowest leaf
pub height_few : {X : Type 0} (at_most : X → X → Bool) (xs : List X) → length xs ≤ 128 → height (tree_of (sorted at_most xs)) ≤ 7
height_few at_most xs few = height_tree_of 7 (sorted at_most xs) (omega (arith, length_sorted at_most xs))
