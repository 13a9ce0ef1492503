-- The figure of held edges is fit and low, and a visit of it answers; so the zone chart is lawful.
-- Assumes nothing.
use Rattle.std.proofs.Common.{◌≡◌, suc, ◌≤◌, true, false, not, List, [], ◌∷◌, length, ℤ, nat_abs, None, Option, sym, refl, ap, ◌∙◌, subst, arith}
use Rattle.std.specs.List.{AllByRecursion}
use Rattle.std.proofs.ByRecursion.{All-weaker}
use Rattle.refusal.specs.declared.Refusal.TheVariants.{FieldOutOfRange, NumberHeld}
use Rattle.records.specs.declared.raw.EdgeRecord.{EdgeRecord}
use Rattle.records.specs.declared.raw.Point.{Point}
use Rattle.records.specs.Range.{is_coordinate}
use Rattle.records.specs.Held.{holds}
use Rattle.records.proofs.Outcome.{first_passed, then_passed}
use Rattle.geometry.specs.Edge.{is_edge}
use Rattle.slabs.proofs.Pairwise.{Pairwise}
use Rattle.search.specs.Node.{Node, bytes_of}
use Rattle.search.specs.Figure.{root_of}
use Rattle.search.specs.Rose.{Rose}
use Rattle.search.specs.Visit.{visit, emissions_of, NodesOf, IsWalked}
use Rattle.search.specs.Walk.{WalkFromRoot, most_waiting}
use Rattle.search.specs.Laws.{Answers}
use Rattle.search.proofs.Walking.{roses_are_walked_lem, roses_make_figures, one_result}
use Rattle.zones.specs.Edges.{number_of, add_refusal}
use Rattle.zones.specs.Holdable.{CanBeHeld, Orderly}
use Rattle.zones.proofs.Orderly.{orderly}
use Rattle.zone_figure.specs.Judge.{zone_judging}
use Rattle.zone_figure.specs.Halving.{bush_of}
use Rattle.zone_figure.specs.Bounds.{bounds_of}
use Rattle.zone_figure.specs.Figure.{bounds_before, zone_tree, zone_figure, zone_answer}
use Rattle.zone_figure.specs.Promises.{ZoneTreesAreFit, ZoneTreesAreLow, VisitsAnswer, WalksAnswer, ZoneChartsAreLawful}
use Rattle.zone_figure.proofs.Halving.{depth, bounds_halve, elements_of, depth_of}
use Rattle.zone_figure.proofs.Finding.{found, over_last, Fails, found_is_last}
use Rattle.zone_figure.proofs.Descent.{is_east_of, west_of, visited_run, levels_of_run}
use Rattle.zone_figure.proofs.Bounds.{EndsIn, bounds_rise, ends_in_bounds, length_bounds, all_bounds}
use Rattle.zone_figure.proofs.West.{Agrees, CoveredAlike, west_agrees, east_fails, covered_alike}
use Rattle.zone_figure.proofs.Fitness.{Parts, parts_of, run_tree_fits}
use Rattle.zone_figure.proofs.JudgesWell.{judges_well_lem}
use Rattle.zone_figure.proofs.Slabs.{slab_fits, slab_levels, zone_found, slab_visited, zone_in_slab}

all_parts : (held : List EdgeRecord) → Orderly held → AllByRecursion Parts held
all_parts held o = All-weaker (λ e. is_edge e ≡ true) Parts parts_of held o.fields

bounds_depth : (held : List EdgeRecord) → Orderly held → depth (bush_of bounds_before (bounds_of held)) ≤ 8
bounds_depth held o =
    let few = o.few in
    depth_of 8 bounds_before bounds_halve (bounds_of held) (omega (arith, length_bounds held))

pub zone_trees_are_fit : ZoneTreesAreFit
zone_trees_are_fit held can =
    let parts = all_parts held (orderly held can) in
    run_tree_fits held (slab_fits held parts) (bush_of bounds_before (bounds_of held)) None
    (subst (AllByRecursion (λ x. is_coordinate x ≡ true)) (sym (elements_of bounds_before bounds_halve (bounds_of held)))
    (all_bounds (λ x. is_coordinate x ≡ true) held (All-weaker Parts (λ e. (is_coordinate e.x1 ≡ true) × (is_coordinate e.x2 ≡ true)) (λ e part. (part.x1, part.x2)) held parts)))

pub zone_trees_are_low : ZoneTreesAreLow
zone_trees_are_low held can =
    let o = orderly held can in
    omega (arith, levels_of_run held 8 (slab_levels held o.few) (bush_of bounds_before (bounds_of held)) None, bounds_depth held o)

-- ---- the slab of a point
abbrev slab_of : Point → List EdgeRecord → Option ℤ
slab_of p held = found (is_east_of p) west_of None (bush_of bounds_before (bounds_of held))

slab_is_last : (p : Point) (held : List EdgeRecord) → slab_of p held ≡ over_last (is_east_of p) west_of None (bounds_of held)
slab_is_last p held =
    let bounds = bounds_of held in
    let same = elements_of bounds_before bounds_halve bounds in
    found_is_last (is_east_of p) west_of (bush_of bounds_before bounds) None (subst (Pairwise (Fails (is_east_of p) west_of)) (sym same) (east_fails p bounds (bounds_rise held)))
    ∙ ap (over_last (is_east_of p) west_of None) same

slab_covers_alike : (p : Point) (held : List EdgeRecord) → AllByRecursion (CoveredAlike p.x (slab_of p held)) held
slab_covers_alike p held =
    let bounds = bounds_of held in
    let agrees : Agrees p.x (slab_of p held) bounds = subst (λ o. Agrees p.x o bounds) (sym (slab_is_last p held)) (west_agrees p bounds (bounds_rise held)) in
    All-weaker (EndsIn bounds) (CoveredAlike p.x (slab_of p held)) (λ e ends. covered_alike p.x (slab_of p held) bounds e agrees ends) held (ends_in_bounds held)

pub visits_answer : VisitsAnswer
visits_answer held p can =
    let o = orderly held can in
    let run = visited_run p held (λ west. nat_abs (zone_found p held west)) 8 596 (slab_visited p held o.few) (bush_of bounds_before (bounds_of held)) None in
    let low = bounds_depth held o in
    let few = run.few in
    let short = run.short in
    record {
      exact = run.emits ∙ ap (λ z. nat_abs z ∷ []) (zone_in_slab p held o.apart (slab_of p held) (slab_covers_alike p held));
      strings = omega arith;
      bytes = omega arith;
    }

-- ---- walks
walked : (held : List EdgeRecord) (p : Point) → CanBeHeld held → IsWalked zone_judging p most_waiting (zone_tree held)
walked held p can =
    let low = zone_trees_are_low held can in
    roses_are_walked_lem zone_judging judges_well_lem p most_waiting (zone_tree held) (zone_trees_are_fit held can) (omega arith)

same_length : (figure : List Node) (roses : List Rose) (nodes : List Node) → NodesOf figure roses nodes → length nodes ≡ length roses
same_length figure [] [] h = refl
same_length figure [] (node ∷ nodes) h = absurd h
same_length figure (r ∷ rs) [] h = absurd h
same_length figure (r ∷ rs) (node ∷ nodes) h = ap suc (same_length figure rs nodes h.1)

pub walks_answer : WalksAnswer
walks_answer held p visited emitted can walk =
    let own = walked held p can in
    let visits = visits_answer held p can in
    let same = one_result zone_judging p most_waiting (zone_figure held) (root_of (zone_figure held) ∷ []) own.visited visited (emissions_of zone_judging p (visit zone_judging p (zone_tree held))) emitted own.walk walk in
    record {
      exact = sym same.1 ∙ visits.exact;
      strings = subst (λ l. length l ≤ 16) same.0 (omega (arith, same_length (zone_figure held) (visit zone_judging p (zone_tree held)) own.visited own.nodes, visits.strings));
      bytes = subst (λ l. bytes_of l ≤ 1172) same.0 (omega (arith, own.bytes, visits.bytes));
    }

-- ---- the laws
number_is_new : (held : List EdgeRecord) (e : EdgeRecord) → add_refusal held e ≡ None → holds number_of (number_of e) held ≡ false
number_is_new held e free =
    first_passed (holds number_of (number_of e) held) NumberHeld _ (then_passed (not (is_edge e)) FieldOutOfRange _ free)

answers : (held : List EdgeRecord) (p : Point) → CanBeHeld held → Answers zone_judging (zone_figure held) p (zone_answer held p)
answers held p can =
    let own = walked held p can in
    let visits = visits_answer held p can in
    record {
      visited = own.visited;
      emitted = zone_answer held p;
      walk = subst (λ emitted. WalkFromRoot zone_judging p most_waiting (zone_figure held) own.visited emitted) visits.exact own.walk;
      short = omega (arith, own.bytes, visits.bytes);
      exact = refl;
    }

pub zone_charts_are_lawful_lem : ZoneChartsAreLawful
zone_charts_are_lawful_lem = record {
  judges_well = judges_well_lem;
  adds_new_numbers = number_is_new;
  figures = λ held can. roses_make_figures zone_judging (zone_tree held) (zone_trees_are_fit held can);
  answers = λ held p can within. answers held p can;
}
