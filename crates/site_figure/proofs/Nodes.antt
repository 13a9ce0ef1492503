-- How many nodes a figure of sites has: each site's node is made once, so only spans add to the sites.
use Rattle.std.proofs.Common.{◌≡◌, ℕ, zero, suc, ◌+◌, ◌*◌, ◌≤◌, max, Bool, true, false, cond, eqb, List, [], ◌∷◌, ◌++◌, length, Some, None, Option, refl, ap, ◌∙◌, ⊎_elim, arith}
use Rattle.std.specs.List.{ContainsAt, AllByRecursion}
use Rattle.std.proofs.lemmas.List.{length-append, length_push}
use Rattle.std.proofs.ByRecursion.{all_has_itself}
use Rattle.std.proofs.lemmas.Bool.{and_from, cond_both, cond-true, eq-eqb}
use Rattle.records.specs.declared.raw.SiteRecord.{SiteRecord}
use Rattle.records.specs.Held.{same_number}
use Rattle.slices.specs.Order.{sorted}
use Rattle.slices.proofs.SortedLists.{length_sorted}
use Rattle.slices.proofs.Tests.{has_cons_cases}
use Rattle.node.specs.declared.kind.Kind.TheVariants.{Site}
use Rattle.node.specs.Kinds.{number_of}
use Rattle.search.specs.Node.{Node}
use Rattle.search.specs.Making.{agree, alike, alike_from, place_of_alike, found_or_next, made_node, made}
use Rattle.site_figure.specs.Halving.{Tree, none, one, both, tree_of, leaves_of}
use Rattle.site_figure.specs.Figure.{by_x, by_y, site_rose, y_rose, y_tree, x_rose, site_figure}
use Rattle.site_figure.proofs.Halves.{height, height_tree_of, leaf_count, leaf_count_some, leaf_count_tree_of, leaves_below_count, leaves_tree_of}
use Rattle.site_figure.proofs.SortedTrees.{all_left, all_right, all_sorted_leaves}
use Rattle.site_figure.proofs.Spans.{int_le_refl}

agree_itself : {X : Type 0} (same : X → X → Bool) → ((x : X) → same x x ≡ true) → (xs : List X) → agree same xs xs ≡ true
agree_itself same h [] = refl
agree_itself same h (x ∷ xs) = and_from _ _ (h x) (agree_itself same h xs)

alike_itself : (node : Node) → alike node node ≡ true
alike_itself node =
    and_from _ _ (eq-eqb node.kind node.kind refl)
    (and_from _ _ (agree_itself same_number (λ z. and_from _ _ (int_le_refl z) (int_le_refl z)) node.numbers) (agree_itself eqb (λ n. eq-eqb n n refl) node.successors))

abbrev is_absent : Option ℕ → ℕ
is_absent None = 1
is_absent (Some place) = 0

absent_either : (b : Bool) (place : ℕ) (o p : Option ℕ) → is_absent o ≤ is_absent p → is_absent (cond b (Some place) o) ≤ is_absent (cond b (Some place) p)
absent_either true place o p h = omega arith
absent_either false place o p h = h

-- one more node makes none absent
absent_more : (place : ℕ) (node : Node) (nodes : List Node) (last : Node) → is_absent (alike_from place node (nodes ++ last ∷ [])) ≤ is_absent (alike_from place node nodes)
absent_more place node [] last =
    cond_both (alike node last) (Some place) None (λ o. is_absent o ≤ 1) (λ _. omega arith) (λ _. omega arith)
absent_more place node (other ∷ nodes) last =
    absent_either (alike node other) place (alike_from (suc place) node (nodes ++ last ∷ [])) (alike_from (suc place) node nodes) (absent_more (suc place) node nodes last)

-- the last node is there
last_present : (place : ℕ) (node : Node) (nodes : List Node) → is_absent (alike_from place node (nodes ++ node ∷ [])) ≡ 0
last_present place node [] = ap is_absent (cond-true (alike node node) (Some place) None (alike_itself node))
last_present place node (other ∷ nodes) =
    cond_both (alike node other) (Some place) (alike_from (suc place) node (nodes ++ node ∷ [])) (λ o. is_absent o ≡ 0) (λ _. refl)
    (λ _. last_present (suc place) node nodes)

abbrev site_node : SiteRecord → Node
site_node s = record { kind = number_of Site; numbers = s.number ∷ s.x ∷ s.y ∷ []; successors = [] }

-- how many of the sites have no node yet
abbrev missing : List SiteRecord → List Node → ℕ
missing [] nodes = 0
missing (s ∷ sites) nodes = is_absent (place_of_alike (site_node s) nodes) + missing sites nodes

missing_all : (sites : List SiteRecord) → missing sites [] ≡ length sites
missing_all [] = refl
missing_all (s ∷ sites) = omega (arith, missing_all sites)

missing_more : (sites : List SiteRecord) (nodes : List Node) (last : Node) → missing sites (nodes ++ last ∷ []) ≤ missing sites nodes
missing_more [] nodes last = omega arith
missing_more (s ∷ sites) nodes last = omega (arith, absent_more 0 (site_node s) nodes last, missing_more sites nodes last)

missing_less : (sites : List SiteRecord) (nodes : List Node) (s : SiteRecord) → ContainsAt sites s → place_of_alike (site_node s) nodes ≡ None
    → suc (missing sites (nodes ++ site_node s ∷ [])) ≤ missing sites nodes
missing_less [] nodes s has absent = absurd (omega (arith, has.1))
missing_less (r ∷ sites) nodes s has absent =
    ⊎_elim
    (λ e.
    let there : is_absent (place_of_alike (site_node r) (nodes ++ site_node s ∷ [])) ≡ 0 =
    ap (λ t. is_absent (place_of_alike (site_node t) (nodes ++ site_node s ∷ []))) e ∙ last_present 0 (site_node s) nodes in
    let before : is_absent (place_of_alike (site_node r) nodes) ≡ 1 = ap (λ t. is_absent (place_of_alike (site_node t) nodes)) e ∙ ap is_absent absent in
    omega (arith, missing_more sites nodes (site_node s)))
    (λ later. omega (arith, absent_more 0 (site_node r) nodes (site_node s), missing_less sites nodes s later absent))
    (has_cons_cases r sites s has)

module _ (held : List SiteRecord) where
  -- the nodes made, and those of sites yet to be made
  abbrev reckoned : List Node → ℕ
  reckoned nodes = length nodes + missing held nodes

  node_adds : (nodes : List Node) (node : Node) → reckoned (made_node nodes node).nodes ≤ suc (reckoned nodes)
  node_adds nodes node = go (place_of_alike node nodes)
    where
      go : (o : Option ℕ) → reckoned (found_or_next nodes node o).nodes ≤ suc (reckoned nodes)
      go (Some place) = omega arith
      go None = omega (arith, length_push nodes node, missing_more held nodes node)

  site_adds : (nodes : List Node) (s : SiteRecord) → ContainsAt held s → reckoned (made nodes (site_rose s)).nodes ≤ reckoned nodes
  site_adds nodes s has = go (place_of_alike (site_node s) nodes) refl
    where
      go : (o : Option ℕ) → place_of_alike (site_node s) nodes ≡ o → reckoned (found_or_next nodes (site_node s) o).nodes ≤ reckoned nodes
      go (Some place) e = omega arith
      go None e = omega (arith, length_push nodes (site_node s), missing_less held nodes s has e)

  -- the nodes that are not sites
  abbrev spans_y : Tree SiteRecord → ℕ
  spans_y none = 1
  spans_y (one s) = 0
  spans_y (both l r) = suc (spans_y l + spans_y r)

  abbrev spans_x : Tree SiteRecord → ℕ
  spans_x none = 1
  spans_x (one s) = 0
  spans_x (both l r) = suc (spans_x l + spans_x r + spans_y (tree_of (sorted by_y (leaves_of l ++ leaves_of r))))

  y_adds : (t : Tree SiteRecord) (nodes : List Node) → AllByRecursion (ContainsAt held) (leaves_of t) → reckoned (made nodes (y_rose t)).nodes ≤ reckoned nodes + spans_y t
  y_adds none nodes h = omega (arith, node_adds nodes (record { kind = 0; numbers = []; successors = [] }))
  y_adds (one s) nodes h = omega (arith, site_adds nodes s h.0)
  y_adds (both l r) nodes h =
      let after_left = (made nodes (y_rose l)).nodes in
      let after_right = (made after_left (y_rose r)).nodes in
      let left = y_adds l nodes (all_left (ContainsAt held) (leaves_of l) (leaves_of r) h) in
      let right = y_adds r after_left (all_right (ContainsAt held) (leaves_of l) (leaves_of r) h) in
      let last : reckoned (made nodes (y_rose (both l r))).nodes ≤ suc (reckoned after_right) = node_adds after_right _ in omega arith

  x_adds : (t : Tree SiteRecord) (nodes : List Node) → AllByRecursion (ContainsAt held) (leaves_of t) → reckoned (made nodes (x_rose t)).nodes ≤ reckoned nodes + spans_x t
  x_adds none nodes h = omega (arith, node_adds nodes (record { kind = 0; numbers = []; successors = [] }))
  x_adds (one s) nodes h = omega (arith, site_adds nodes s h.0)
  x_adds (both l r) nodes h =
      let sites : List SiteRecord = leaves_of l ++ leaves_of r in
      let after_left = (made nodes (x_rose l)).nodes in
      let after_right = (made after_left (x_rose r)).nodes in
      let after_across = (made after_right (y_tree sites)).nodes in
      let left = x_adds l nodes (all_left (ContainsAt held) (leaves_of l) (leaves_of r) h) in
      let right = x_adds r after_left (all_right (ContainsAt held) (leaves_of l) (leaves_of r) h) in
      let across = y_adds (tree_of (sorted by_y sites)) after_right (all_sorted_leaves (ContainsAt held) by_y sites h) in
      let last : reckoned (made nodes (x_rose (both l r))).nodes ≤ suc (reckoned after_across) = node_adds after_across _ in omega arith

  y_spans : (t : Tree SiteRecord) → spans_y t + length (leaves_of t) + 1 ≤ 2 * leaf_count t
  y_spans none = omega arith
  y_spans (one s) = omega arith
  y_spans (both l r) = omega (arith, y_spans l, y_spans r, length-append (leaves_of l) (leaves_of r))

  y_tree_spans : (sites : List SiteRecord) → spans_y (tree_of (sorted by_y sites)) + 1 ≤ max 2 (length sites)
  y_tree_spans sites =
      let xs : List SiteRecord = sorted by_y sites in
      omega (arith, y_spans (tree_of xs), leaf_count_tree_of xs, length_sorted by_y sites, ap length (leaves_tree_of xs))

  -- m as many times as there are layers
  abbrev layers : ℕ → ℕ → ℕ
  layers zero m = 0
  layers (suc k) m = m + layers k m

  layers_add : (k m n : ℕ) → layers k (m + n) ≡ layers k m + layers k n
  layers_add zero m n = refl
  layers_add (suc k) m n = omega (arith, layers_add k m n)

  layers_rise : (j k m : ℕ) → j ≤ k → layers j m ≤ layers k m
  layers_rise zero k m h = omega arith
  layers_rise (suc j) zero m h = absurd (omega arith)
  layers_rise (suc j) (suc k) m h = omega (arith, layers_rise j k m (omega arith))

  -- the x spans of one layer have, with the y spans below them, no more spans than there are sites
  x_spans : (t : Tree SiteRecord) → spans_x t + length (leaves_of t) ≤ leaf_count t + layers (height t) (leaf_count t)
  x_spans none = omega arith
  x_spans (one s) = omega arith
  x_spans (both l r) =
      let high : ℕ = max (height l) (height r) in
      let left = layers_rise (height l) high (leaf_count l) (omega arith) in
      let right = layers_rise (height r) high (leaf_count r) (omega arith) in
      let some = leaf_count_some l in
      let others = leaf_count_some r in
      omega (
        arith,
        x_spans l,
        x_spans r,
        layers_add high (leaf_count l) (leaf_count r),
        y_tree_spans (leaves_of l ++ leaves_of r),
        length-append (leaves_of l) (leaves_of r),
        leaves_below_count (both l r),
      )

  pub figure_nodes : length held ≤ 128 → length (site_figure held) ≤ 1024
  figure_nodes few =
      let xs : List SiteRecord = sorted by_x held in
      let t : Tree SiteRecord = tree_of xs in
      let low = layers_rise (height t) 7 (leaf_count t) (height_tree_of 7 xs (omega (arith, length_sorted by_x held))) in
      omega (
        arith,
        x_adds t [] (all_sorted_leaves (ContainsAt held) by_x held (all_has_itself held)),
        missing_all held,
        x_spans t,
        leaf_count_tree_of xs,
        length_sorted by_x held,
        ap length (leaves_tree_of xs),
      )
