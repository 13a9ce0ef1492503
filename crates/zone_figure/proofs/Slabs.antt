-- Every slab of orderly edges: its tree is fit and low, and a visit of it emits the zone of a point in the slab.
-- Assumes nothing.
use Rattle.std.proofs.Common.{◌≡◌, suc, ◌+◌, ◌*◌, ◌≤◌, Bool, true, false, cond, List, [], ◌∷◌, length, ℤ, pos, nat_abs, Some, None, filter, Option, sym, refl, ap, ◌∙◌, subst, arith}
use Rattle.std.specs.List.{AllByRecursion}
use Rattle.std.proofs.ByRecursion.{All-weaker, all_kept_by, kept_by_passes, all_shuffled}
use Rattle.std.proofs.lemmas.Bool.{and_parts, and_left, cond_both, cond-true, cond-false, true≢false}
use Rattle.records.specs.declared.raw.EdgeRecord.{EdgeRecord}
use Rattle.records.specs.declared.raw.Point.{Point}
use Rattle.slices.specs.Order.{sorted}
use Rattle.slices.proofs.SortedLists.{shuffled_sorted, length_sorted}
use Rattle.geometry.specs.Fraction.{whole, at_most}
use Rattle.geometry.specs.Edge.{covers, height}
use Rattle.slabs.specs.Topmost.{is_under, topmost, zone_above, zone_at, Apart}
use Rattle.slabs.proofs.Apart.{all_wide, apart_kept, apart_shuffled}
use Rattle.slabs.proofs.Pairwise.{Pairwise}
use Rattle.slabs.proofs.Topmost.{any_order_names_it, zone_of_open_ground}
use Rattle.search.specs.Rose.{levels}
use Rattle.search.specs.Visit.{FitsWhole}
use Rattle.zone_figure.specs.Judge.{zone_judging}
use Rattle.zone_figure.specs.Halving.{bush_of}
use Rattle.zone_figure.specs.Slab.{from_below, covering, slab_edges, edges_before, slab_tree}
use Rattle.zone_figure.proofs.Halving.{depth, edges_halve, elements_of, depth_of}
use Rattle.zone_figure.proofs.Finding.{found, over_last, Fails, found_is_last}
use Rattle.zone_figure.proofs.Visiting.{Visited, weaker}
use Rattle.zone_figure.proofs.Descent.{is_over, zone_over, visited_edges, levels_of_edges}
use Rattle.zone_figure.proofs.FromBelow.{Under, AllCover, sorted_under, under_moved}
use Rattle.zone_figure.proofs.SlabZone.{zone_by_turns, fails_after}
use Rattle.zone_figure.proofs.West.{CoveredAlike}
use Rattle.zone_figure.proofs.Fitness.{Parts, edge_tree_fits}

-- ---- size and fitness
kept_fewer : {X : Type 0} (test : X → Bool) (xs : List X) → length (filter test xs) ≤ length xs
kept_fewer test [] = omega arith
kept_fewer test (x ∷ xs) =
    let later = kept_fewer test xs in
    cond_both (test x) (x ∷ filter test xs) (filter test xs) (λ l. length l ≤ suc (length xs)) (λ _. omega arith) (λ _. omega arith)

slab_length : (held : List EdgeRecord) (west : Option ℤ) → length (slab_edges held west) ≤ length held
slab_length held None = omega arith
slab_length held (Some west) =
    omega (arith, length_sorted (from_below west) (covering west held), kept_fewer (λ e. covers e west) held)

pub slab_depth : (held : List EdgeRecord) → length held ≤ 64 → (west : Option ℤ) → depth (bush_of edges_before (slab_edges held west)) ≤ 7
slab_depth held few west = depth_of 7 edges_before edges_halve (slab_edges held west) (omega (arith, slab_length held west))

pub all_slab : (P : EdgeRecord → Type 0) (held : List EdgeRecord) (west : Option ℤ) → AllByRecursion P held → AllByRecursion P (slab_edges held west)
all_slab P held None h = tt
all_slab P held (Some west) h =
    all_shuffled P (covering west held) (sorted (from_below west) (covering west held)) (shuffled_sorted (from_below west) (covering west held)) (all_kept_by (λ e. covers e west) P held h)

pub slab_fits : (held : List EdgeRecord) → AllByRecursion Parts held → (west : Option ℤ) → FitsWhole zone_judging (slab_tree held west)
slab_fits held h west =
    edge_tree_fits (bush_of edges_before (slab_edges held west)) (pos 0) refl
    (subst (AllByRecursion Parts) (sym (elements_of edges_before edges_halve (slab_edges held west))) (all_slab Parts held west h))

pub slab_levels : (held : List EdgeRecord) → length held ≤ 64 → (west : Option ℤ) → levels (slab_tree held west) ≤ 8
slab_levels held few west =
    omega (arith, levels_of_edges (bush_of edges_before (slab_edges held west)) (pos 0), slab_depth held few west)

-- ---- the zone found
abbrev pub zone_found : Point → List EdgeRecord → Option ℤ → ℤ
zone_found p held west = found (is_over p) zone_over (pos 0) (bush_of edges_before (slab_edges held west))

pub slab_visited : (p : Point) (held : List EdgeRecord) → length held ≤ 64 → (west : Option ℤ) → Visited p (slab_tree held west) (nat_abs (zone_found p held west)) 8 596
slab_visited p held few west =
    let bush = bush_of edges_before (slab_edges held west) in
    let low = slab_depth held few west in
    weaker p (slab_tree held west) (nat_abs (zone_found p held west)) (suc (depth bush)) (84 * depth bush + 8) 8 596 (omega arith) (omega arith)
    (visited_edges p bush (pos 0))

kept_twice : {X : Type 0} (first second : X → Bool) (xs : List X) → AllByRecursion (λ x. first x ≡ true → second x ≡ true) xs → filter first xs ≡ filter first (filter second xs)
kept_twice first second [] h = refl
kept_twice first second (x ∷ xs) h = by (first x) (second x) refl refl (kept_twice first second xs h.1)
  where
    by : (s t : Bool) → first x ≡ s → second x ≡ t → filter first xs ≡ filter first (filter second xs)
        → cond (first x) (x ∷ filter first xs) (filter first xs) ≡ filter first (cond (second x) (x ∷ filter second xs) (filter second xs))
    by true true e f later =
        cond-true (first x) (x ∷ filter first xs) (filter first xs) e ∙ ap (λ l. x ∷ l) later
        ∙ sym (ap (filter first) (cond-true (second x) (x ∷ filter second xs) (filter second xs) f) ∙ cond-true (first x) (x ∷ filter first (filter second xs)) (filter first (filter second xs)) e)
    by true false e f later = absurd (true≢false (sym (h.0 e) ∙ f))
    by false true e f later =
        cond-false (first x) (x ∷ filter first xs) (filter first xs) e ∙ later
        ∙ sym (ap (filter first) (cond-true (second x) (x ∷ filter second xs) (filter second xs) f) ∙ cond-false (first x) (x ∷ filter first (filter second xs)) (filter first (filter second xs)) e)
    by false false e f later =
        cond-false (first x) (x ∷ filter first xs) (filter first xs) e ∙ later
        ∙ sym (ap (filter first) (cond-false (second x) (x ∷ filter second xs) (filter second xs) f))

module _ (p : Point) (held : List EdgeRecord) (apart : Apart held) where
  abbrev Alike : ℤ → Type 0
  Alike west = AllByRecursion (λ e. covers e p.x ≡ covers e west) held

  -- the edges that do not cover the west bound do not matter
  only_covering : (west : ℤ) → Alike west → zone_at held p.x p.y ≡ zone_at (covering west held) p.x p.y
  only_covering west alike = ap (λ l. zone_above (topmost p.x l)) (kept_twice (is_under p.x p.y) (λ e. covers e west) held
      (All-weaker (λ e. covers e p.x ≡ covers e west) (λ e. is_under p.x p.y e ≡ true → covers e west ≡ true)
      (λ e same t. sym same ∙ (and_parts (covers e p.x) (at_most (height e p.x) (whole p.y)) t).0) held alike))

  module _ (west : ℤ) (alike : Alike west) where
    abbrev kept : List EdgeRecord
    kept = covering west held

    abbrev edges : List EdgeRecord
    edges = slab_edges held (Some west)

    kept_apart : Apart kept
    kept_apart = apart_kept (λ e. covers e west) held apart

    edges_apart : Apart edges
    edges_apart = apart_shuffled kept edges (shuffled_sorted (from_below west) kept) kept_apart

    kept_cover : AllCover west kept
    kept_cover = kept_by_passes (λ e. covers e west) held

    edges_cover : AllCover west edges
    edges_cover = all_shuffled (λ e. covers e west ≡ true) kept edges (shuffled_sorted (from_below west) kept) kept_cover

    edges_alike : AllByRecursion (λ e. covers e p.x ≡ covers e west) edges
    edges_alike = all_slab (λ e. covers e p.x ≡ covers e west) held (Some west) alike

    cover_from : (es : List EdgeRecord) → AllByRecursion (λ e. covers e p.x ≡ covers e west) es → AllCover west es → AllCover p.x es
    cover_from [] s c = tt
    cover_from (e ∷ es) s c = (s.0 ∙ c.0, cover_from es s.1 c.1)

    cover_point : AllCover p.x edges
    cover_point = cover_from edges edges_alike edges_cover

    under_point : Pairwise (Under p.x) edges
    under_point = under_moved west p.x edges edges_apart edges_cover cover_point (sorted_under west kept kept_apart kept_cover)

    in_slab : zone_found p held (Some west) ≡ zone_at held p.x p.y
    in_slab =
        let bush = bush_of edges_before edges in
        let same = elements_of edges_before edges_halve edges in
        found_is_last (is_over p) zone_over bush (pos 0) (subst (Pairwise (Fails (is_over p) zone_over)) (sym same) (fails_after p edges (all_wide edges edges_apart) cover_point under_point))
        ∙ ap (over_last (is_over p) zone_over (pos 0)) same
        ∙ zone_by_turns p edges under_point cover_point
        ∙ sym (only_covering west alike ∙ any_order_names_it kept edges p.x p.y kept_apart (shuffled_sorted (from_below west) kept))

  -- in the slab whose edges are those that cover the point's x, the zone found is that of the point
  pub zone_in_slab : (west : Option ℤ) → AllByRecursion (CoveredAlike p.x west) held → zone_found p held west ≡ zone_at held p.x p.y
  zone_in_slab None alike =
      sym (zone_of_open_ground held p.x p.y (All-weaker (λ e. covers e p.x ≡ false) (λ e. is_under p.x p.y e ≡ false)
      (λ e none. and_left (covers e p.x) (at_most (height e p.x) (whole p.y)) none) held alike))
  zone_in_slab (Some west) alike = in_slab west alike
