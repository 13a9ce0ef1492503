-- The walk of a rose's figure, and that every walk has one result.
use Rattle.std.proofs.Common.{◌≡◌, ℕ, zero, suc, ◌+◌, ◌*◌, ◌<◌, ◌≤◌, max, leb, List, [], ◌∷◌, ◌++◌, length, ℤ, Some, Option, sym, refl, ap, ◌∙◌, subst, append_assoc, arith, length-append}
use Rattle.std.specs.List.{flat_map, slice_get, AllByRecursion}
use Rattle.std.proofs.ByRecursion.{All-weaker}
use Rattle.std.proofs.lemmas.List.{append-nil}
use Rattle.slices.specs.Order.{sorted}
use Rattle.search.specs.Node.{Node, string_bytes, bytes_of}
use Rattle.search.specs.Judging.{Judging}
use Rattle.search.specs.Picks.{ahead, picks}
use Rattle.search.specs.Figure.{Sound, root_of}
use Rattle.search.specs.Walk.{Walk, ended, taken, most_waiting, judge_node, waiting_after, WalksHaveOneResult}
use Rattle.search.specs.Honest.{HonestProofsAreUnique, strings_of, digests_of}
use Rattle.search.specs.Laws.{Answers, JudgesWell, longest_proof}
use Rattle.search.specs.Rose.{Rose, Roses, grown, end, more, how_many, levels, levels_of_each}
use Rattle.search.specs.Making.{figure_of, Stands, StandEach}
use Rattle.search.specs.Visit.{Fits, FitsWhole, FitEach, visit, visit_each, emits_at, emissions_of, rose_bytes, roses_bytes, NodesOf, crowd_of, crowd, crowd_each, CrowdsAreAllowed, CrowdsAreSmall, RosesAreWalked, RosesMakeFigures}
use Rattle.search.proofs.Places.{some_same, nth_bound, length_picks, all_picks, picks_each, ahead_append}
use Rattle.search.proofs.Growing.{node, stand_each_length, Throughout, ThroughoutEach}
use Rattle.search.proofs.Rooted.{figure_made, root_is_last_lem, stands_at_root}

pub walk_same : {Q : Type 0} (judging : Judging Q) (q : Q) (limit : ℕ) (figure : List Node) (waiting : List ℕ) (vs ws : List Node) (es fs : List ℕ)
    → vs ≡ ws → es ≡ fs → Walk judging q limit figure waiting vs es → Walk judging q limit figure waiting ws fs
walk_same judging q limit figure waiting vs ws es fs v e walk =
    subst (λ (t : List Node). Walk judging q limit figure waiting t fs) v (subst (λ (t : List ℕ). Walk judging q limit figure waiting vs t) e walk)

pub one_result : {Q : Type 0} (judging : Judging Q) → WalksHaveOneResult judging
one_result judging q limit figure _ _ _ _ _ ended ended = (refl, refl)
one_result judging q limit figure _ _ _ _ _ (taken {waiting} {node = n} {visited} {emitted} at few rest) (taken {node = m} {visited = visited'} {emitted = emitted'} at' few' rest') =
    let e = some_same n m (sym at ∙ at') in
    let rest'' = subst (λ (x : Node). Walk judging q limit figure (waiting_after judging q x waiting) visited' emitted') (sym e) rest' in
    let same = one_result judging q limit figure _ _ _ _ _ rest rest'' in
    let vs = same.0 in
    let es = same.1 in
    (λ i. e i ∷ vs i, λ i. ahead (judge_node judging q (e i)).emits (es i))

pub honest_unique : {Q : Type 0} (judging : Judging Q) → HonestProofsAreUnique judging
honest_unique judging hash figure q proof other h g =
    h.is ∙ ap (strings_of (digests_of hash figure)) (one_result judging q most_waiting figure _ _ _ _ _ h.walk g.walk).0 ∙ sym g.is

-- the nodes of visited roses, and their bytes
nodes_append : (figure : List Node) (rs ss : List Rose) (ns ms : List Node) → NodesOf figure rs ns → NodesOf figure ss ms → NodesOf figure (rs ++ ss) (ns ++ ms)
nodes_append figure [] ss [] ms h g = g
nodes_append figure [] ss (n ∷ ns) ms h g = absurd h
nodes_append figure (r ∷ rs) ss [] ms h g = absurd h
nodes_append figure (r ∷ rs) ss (n ∷ ns) ms h g = (h.0, nodes_append figure rs ss ns ms h.1 g)

node_bytes : (figure : List Node) (r : Rose) (n : Node) (p : ℕ) → Stands figure r p → slice_get figure p ≡ Some n → string_bytes n ≡ rose_bytes r
node_bytes figure (grown k zs rs) n p h at =
    ap string_bytes (some_same n (node k zs h.0) (sym at ∙ h.1)) ∙ ap (λ (m : ℕ). 4 + 4 * length zs + 32 * m) (stand_each_length figure rs h.0 h.2)

nodes_bytes : (figure : List Node) (rs : List Rose) (ns : List Node) → NodesOf figure rs ns → bytes_of ns ≡ roses_bytes rs
nodes_bytes figure [] [] h = refl
nodes_bytes figure [] (n ∷ ns) h = absurd h
nodes_bytes figure (r ∷ rs) [] h = absurd h
nodes_bytes figure (r ∷ rs) (n ∷ ns) h =
    let first = node_bytes figure r n h.0.0 h.0.1 h.0.2 in
    let rest = nodes_bytes figure rs ns h.1 in
    λ i. first i + rest i

module _ {Q : Type 0} (judging : Judging Q) (q : Q) where
  pub emissions_append : (rs ss : List Rose) → emissions_of judging q (rs ++ ss) ≡ emissions_of judging q rs ++ emissions_of judging q ss
  emissions_append [] ss = refl
  emissions_append (r ∷ rs) ss = ap (ahead (emits_at judging q r)) (emissions_append rs ss) ∙ sym (ahead_append (emits_at judging q r) (emissions_of judging q rs) (emissions_of judging q ss))

  module _ (limit : ℕ) (figure : List Node) where
    -- a walk goes through these roses, which wait at these places, before what else waits
    pub record Reached (roses : List Rose) (places waiting : List ℕ) (vs : List Node) (es : List ℕ) : Type 0 where
      pub nodes : List Node
      pub walk : Walk judging q limit figure (places ++ waiting) (nodes ++ vs) (emissions_of judging q roses ++ es)
      pub are : NodesOf figure roses nodes

    abbrev Walkable : Rose → ℕ → Type 0
    Walkable r p =
        (waiting : List ℕ) (vs : List Node) (es : List ℕ) → crowd judging q r + length waiting ≤ limit → Walk judging q limit figure waiting vs es → Reached (visit judging q r) (p ∷ []) waiting vs es

    record Way (rs : Roses) (places : List ℕ) (way : ℕ) : Type 0 where
      r : Rose
      p : ℕ
      visits : slice_get (visit_each judging q rs) way ≡ Some (visit judging q r)
      place : slice_get places way ≡ Some p
      alone : slice_get (crowd_each judging q rs) way ≡ Some (crowd judging q r)
      walks : Walkable r p

    reached_both : (first rest : List Rose) (p : ℕ) (places waiting : List ℕ) (vs : List Node) (es : List ℕ)
        → (later : Reached rest places waiting vs es) → Reached first (p ∷ []) (places ++ waiting) (later.nodes ++ vs) (emissions_of judging q rest ++ es)
        → Reached (first ++ rest) (p ∷ places) waiting vs es
    reached_both first rest p places waiting vs es later now =
        record {
          nodes = now.nodes ++ later.nodes;
          walk = walk_same judging q limit figure (p ∷ places ++ waiting) _ _ _ _ (sym (append_assoc now.nodes later.nodes vs)) (sym (append_assoc (emissions_of judging q first) (emissions_of judging q rest) es) ∙ ap (λ (t : List ℕ). t ++ es) (sym (emissions_append first rest))) now.walk;
          are = nodes_append figure first rest now.nodes later.nodes now.are later.are;
        }

    length_crowds : (rs : Roses) → length (crowd_each judging q rs) ≡ how_many rs
    length_crowds end = refl
    length_crowds (more r rs) = ap suc (length_crowds rs)

    -- one crowd for each way
    picked_crowds : (rs : Roses) (ws : List ℕ) → AllByRecursion (λ w. w < how_many rs) ws → length (picks (crowd_each judging q rs) ws) ≡ length ws
    picked_crowds rs ws h = picks_each (crowd_each judging q rs) ws (subst (λ (n : ℕ). AllByRecursion (λ w. w < n) ws) (sym (length_crowds rs)) h)

    walk_ways : (rs : Roses) (places : List ℕ) → ((way : ℕ) → way < how_many rs → Way rs places way) → (ws : List ℕ) → AllByRecursion (λ w. w < how_many rs) ws
        → (waiting : List ℕ) (vs : List Node) (es : List ℕ) → crowd_of (picks (crowd_each judging q rs) ws) + length waiting ≤ limit → Walk judging q limit figure waiting vs es
        → Reached (flat_map (λ visited. visited) (picks (visit_each judging q rs) ws)) (picks places ws) waiting vs es
    walk_ways rs places at [] h waiting vs es room walk = record { nodes = []; walk = walk; are = tt }
    walk_ways rs places at (w ∷ ws) h waiting vs es room walk =
        let way = at w h.0 in
        let few : max (crowd judging q way.r + length (picks (crowd_each judging q rs) ws)) (crowd_of (picks (crowd_each judging q rs) ws)) + length waiting ≤ limit = subst (λ (o : Option ℕ). crowd_of (ahead o (picks (crowd_each judging q rs) ws)) + length waiting ≤ limit) way.alone room in
        let later = walk_ways rs places at ws h.1 waiting vs es (omega arith) walk in
        let now = way.walks (picks places ws ++ waiting) (later.nodes ++ vs) (emissions_of judging q (flat_map (λ visited. visited) (picks (visit_each judging q rs) ws)) ++ es) (omega (arith, length-append (picks places ws) waiting, length_picks places ws, picked_crowds rs ws h.1)) later.walk in
        let both = reached_both (visit judging q way.r) (flat_map (λ visited. visited) (picks (visit_each judging q rs) ws)) way.p (picks places ws) waiting vs es later now in
        subst (λ (o : Option ℕ). Reached (flat_map (λ visited. visited) (picks (visit_each judging q rs) (w ∷ ws))) (ahead o (picks places ws)) waiting vs es) (sym way.place) (subst (λ (o : Option (List Rose)). Reached (flat_map (λ visited. visited) (ahead o (picks (visit_each judging q rs) ws))) (way.p ∷ picks places ws) waiting vs es) (sym way.visits) both)

    somebody : (r : Rose) → 1 ≤ crowd judging q r
    somebody (grown k zs rs) = omega arith

    somebody_each : (rs : Roses) → AllByRecursion (λ c. 1 ≤ c) (crowd_each judging q rs)
    somebody_each end = tt
    somebody_each (more r rs) = (somebody r, somebody_each rs)

    -- at first, all of them wait
    all_wait : (cs : List ℕ) → AllByRecursion (λ c. 1 ≤ c) cs → length cs ≤ crowd_of cs
    all_wait [] h = omega arith
    all_wait (c ∷ cs) h = omega (arith, h.0)

    module _ (well : JudgesWell judging) where
      walk_grown : (k : ℕ) (zs : List ℤ) (rs : Roses) (p : ℕ) (stands : Stands figure (grown k zs rs) p) → Fits judging k zs rs → ((way : ℕ) → way < how_many rs → Way rs stands.0 way) → Walkable (grown k zs rs) p
      walk_grown k zs rs p stands fits at waiting vs es room walk =
          let ways = (judging.judge q k zs).ways in
          let within = subst (λ (m : ℕ). AllByRecursion (λ w. w < m) (judging.judge q k zs).ways) (sym fits.joined) (well.ways_in_shape q k zs fits.shape fits.judgeable) in
          let many = picked_crowds rs (judging.judge q k zs).ways within in
          let low = all_wait (picks (crowd_each judging q rs) (judging.judge q k zs).ways) (all_picks (λ c. 1 ≤ c) (crowd_each judging q rs) (judging.judge q k zs).ways (somebody_each rs)) in
          let later = walk_ways rs stands.0 at (judging.judge q k zs).ways within waiting vs es (omega arith) walk in
          let room' : length (picks stands.0 (judging.judge q k zs).ways ++ waiting) ≤ limit = omega (arith, length-append (picks stands.0 (judging.judge q k zs).ways) waiting, length_picks stands.0 (judging.judge q k zs).ways) in
          let joint = emissions_of judging q (flat_map (λ visited. visited) (picks (visit_each judging q rs) (judging.judge q k zs).ways)) in
          record {
            nodes = node k zs stands.0 ∷ later.nodes;
            walk = walk_same judging q limit figure (p ∷ waiting) _ _ _ _ refl (sym (ahead_append (judging.judge q k zs).emits joint es)) (taken {node = node k zs stands.0} stands.1 room' later.walk);
            are = ((p, stands, stands.1), later.are);
          }

      mutual
        walk_rose : (r : Rose) (p : ℕ) → Stands figure r p → FitsWhole judging r → Walkable r p
        walk_rose (grown k zs rs) p stands fits = walk_grown k zs rs p stands fits.0 (walk_each rs stands.0 stands.2 fits.1)

        walk_each : (rs : Roses) (places : List ℕ) → StandEach figure rs places → FitEach judging rs → (way : ℕ) → way < how_many rs → Way rs places way
        walk_each end places stand fits way h = absurd (omega arith)
        walk_each (more r rs) places stand fits zero h =
            record { r = r; p = stand.0; visits = refl; place = ap (λ (ps : List ℕ). slice_get ps 0) stand.2; alone = refl; walks = walk_rose r stand.0 stand.3 fits.0 }
        walk_each (more r rs) places stand fits (suc way) h =
            let w = walk_each rs stand.1 stand.4 fits.1 way (omega arith) in
            record { r = w.r; p = w.p; visits = w.visits; place = ap (λ (ps : List ℕ). slice_get ps (suc way)) stand.2 ∙ w.place; alone = w.alone; walks = w.walks }

pub crowds_are_allowed : {Q : Type 0} (judging : Judging Q) → CrowdsAreAllowed judging
crowds_are_allowed judging well q limit r fits low =
    let reached = walk_rose judging q limit (figure_of r) well r (root_of (figure_of r)) (stands_at_root r) fits [] [] [] (omega arith) ended in
    record {
      visited = reached.nodes;
      walk = walk_same judging q limit (figure_of r) _ _ _ _ _ (append-nil reached.nodes) (append-nil (emissions_of judging q (visit judging q r))) reached.walk;
      nodes = reached.are;
      bytes = nodes_bytes (figure_of r) (visit judging q r) reached.nodes reached.are;
    }

-- two ways at most, of which the second waits while the first is walked
few_in_crowd : (n : ℕ) (cs : List ℕ) → length cs ≤ 2 → AllByRecursion (λ c. c ≤ n) cs → crowd_of cs ≤ suc n
few_in_crowd n [] few h = omega arith
few_in_crowd n (a ∷ []) few h = omega (arith, h.0)
few_in_crowd n (a ∷ b ∷ []) few h = omega (arith, h.0, h.1.0)
few_in_crowd n (a ∷ b ∷ c ∷ cs) few h = absurd (omega arith)

mutual
  pub crowds_are_small : {Q : Type 0} (judging : Judging Q) → CrowdsAreSmall judging
  crowds_are_small judging well q (grown k zs rs) fits =
      let few = well.few_ways q k zs fits.0.shape fits.0.judgeable in
      let small = few_in_crowd (levels_of_each rs) (picks (crowd_each judging q rs) (judging.judge q k zs).ways) (omega (arith, few, length_picks (crowd_each judging q rs) (judging.judge q k zs).ways)) (all_picks (λ c. c ≤ levels_of_each rs) (crowd_each judging q rs) (judging.judge q k zs).ways (each_small judging well q rs fits.1)) in
      omega (arith, small)

  each_small : {Q : Type 0} (judging : Judging Q) → JudgesWell judging → (q : Q) (rs : Roses) → FitEach judging rs → AllByRecursion (λ c. c ≤ levels_of_each rs) (crowd_each judging q rs)
  each_small judging well q end fits = tt
  each_small judging well q (more r rs) fits =
      (omega (arith, crowds_are_small judging well q r fits.0), All-weaker (λ c. c ≤ levels_of_each rs) (λ c. c ≤ levels_of_each (more r rs)) (λ c h. omega arith) (crowd_each judging q rs) (each_small judging well q rs fits.1))

pub roses_are_walked_lem : {Q : Type 0} (judging : Judging Q) → RosesAreWalked judging
roses_are_walked_lem judging well q limit r fits low =
    crowds_are_allowed judging well q limit r fits (omega (arith, low, crowds_are_small judging well q r fits))

-- the node of every rose in it is sound where it stands
abbrev FitsHere : {Q : Type 0} → Judging Q → Rose → Type 0
FitsHere judging (grown k zs rs) = Fits judging k zs rs

mutual
  fits_throughout : {Q : Type 0} (judging : Judging Q) (r : Rose) → FitsWhole judging r → Throughout (FitsHere judging) r
  fits_throughout judging (grown k zs rs) h = (h.0, fits_throughout_each judging rs h.1)

  fits_throughout_each : {Q : Type 0} (judging : Judging Q) (rs : Roses) → FitEach judging rs → ThroughoutEach (FitsHere judging) rs
  fits_throughout_each judging end h = tt
  fits_throughout_each judging (more r rs) h = (fits_throughout judging r h.0, fits_throughout_each judging rs h.1)

sound_where : {Q : Type 0} (judging : Judging Q) (figure : List Node) (p : ℕ) (n : Node) (r : Rose) → slice_get figure p ≡ Some n → Stands figure r p → FitsHere judging r → Sound judging p n
sound_where judging figure p n (grown k zs rs) at stands fits =
    subst (Sound judging p) (some_same (node k zs stands.0) n (sym stands.1 ∙ at)) (record { shape = fits.shape; judgeable = fits.judgeable; joined = stand_each_length figure rs stands.0 stands.2 ∙ fits.joined; before = stands.3 })

pub roses_make_figures : {Q : Type 0} (judging : Judging Q) → RosesMakeFigures judging
roses_make_figures judging r fits =
    let built = figure_made (FitsHere judging) r (fits_throughout judging r fits) in
    record {
      some = (root_is_last_lem r).1;
      sound = λ place n at. let w = built.covered place (nth_bound (figure_of r) place n at) in sound_where judging (figure_of r) place n w.0 at w.1 w.2;
    }

-- what a chart kind has left to show of its rose: its bytes and its emissions
pub answers_by_rose : {Q : Type 0} (judging : Judging Q) (q : Q) (r : Rose) (answer : List ℕ) → JudgesWell judging → FitsWhole judging r → levels r ≤ most_waiting
    → roses_bytes (visit judging q r) ≤ longest_proof → sorted leb (emissions_of judging q (visit judging q r)) ≡ answer → Answers judging (figure_of r) q answer
answers_by_rose judging q r answer well fits low short exact =
    let walked = roses_are_walked_lem judging well q most_waiting r fits low in
    record {
      visited = walked.visited;
      emitted = emissions_of judging q (visit judging q r);
      walk = walked.walk;
      short = omega (arith, walked.bytes, short);
      exact = exact;
    }
