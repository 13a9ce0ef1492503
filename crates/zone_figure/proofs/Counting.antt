-- How many nodes the figure of held edges has at most.
-- Assumes nothing.
use Rattle.std.proofs.Common.{◌≡◌, suc, ◌+◌, ◌≤◌, List, [], ◌∷◌, map, length, ℤ, pos, Some, None, Ok, Err, Option, refl, ap, arith}
use Rattle.std.specs.List.{ContainsAt, AllByRecursion}
use Rattle.std.proofs.ByRecursion.{All-weaker}
use Rattle.std.proofs.lemmas.List.{length-map}
use Rattle.std.proofs.lemmas.Bool.{le-leb, cond-true}
use Rattle.refusal.specs.declared.Refusal.TheVariants.{SheetTooSmall}
use Rattle.records.specs.declared.raw.EdgeRecord.{EdgeRecord}
use Rattle.slices.proofs.SortedLists.{length_sorted}
use Rattle.slabs.proofs.Elements.{has_first, has_later}
use Rattle.search.specs.Sheet.{usable}
use Rattle.zones.proofs.Orderly.{orderly}
use Rattle.zone_figure.specs.Halving.{bush_of}
use Rattle.zone_figure.specs.Bounds.{ends_of, bounds_of}
use Rattle.zone_figure.specs.Slab.{from_below, covering, slab_edges}
use Rattle.zone_figure.specs.Figure.{bounds_before, zone_figure}
use Rattle.zone_figure.specs.Promises.{ZoneFiguresAreSmall, SheetsSuffice}
use Rattle.zone_figure.proofs.Halving.{bounds_halve, elements_of}
use Rattle.zone_figure.proofs.Bounds.{bounds_rise_strictly, ends_in_ends, length_bounds, all_bounds}
use Rattle.zone_figure.proofs.Slabs.{all_slab}
use Rattle.zone_figure.proofs.Crowding.{sum_of, crowd, covering_crowd, square, square_rises, crowds_in_all}
use Rattle.zone_figure.proofs.Sharing.{weight_run, nodes_at_most}

-- open ground, and what is above each edge
abbrev zones_of : List EdgeRecord → List ℤ
zones_of held = pos 0 ∷ map (λ e. e.zone) held

zones_above : (held : List EdgeRecord) → AllByRecursion (λ e. ContainsAt (map (λ f. f.zone) held) e.zone) held
zones_above [] = tt
zones_above (e ∷ held) = (
  has_first e.zone (map (λ f. f.zone) held),
  All-weaker (λ f. ContainsAt (map (λ g. g.zone) held) f.zone) (λ f. ContainsAt (e.zone ∷ map (λ g. g.zone) held) f.zone) (λ f h. has_later e.zone (map (λ g. g.zone) held) f.zone h) held (zones_above held),
)

zones_known : (held : List EdgeRecord) (west : Option ℤ) → AllByRecursion (λ e. ContainsAt (zones_of held) e.zone) (slab_edges held west)
zones_known held west = all_slab (λ e. ContainsAt (zones_of held) e.zone) held west
    (All-weaker (λ e. ContainsAt (map (λ f. f.zone) held) e.zone) (λ e. ContainsAt (zones_of held) e.zone) (λ e h. has_later (pos 0) (map (λ f. f.zone) held) e.zone h) held (zones_above held))

-- a fork for each bound, and for each edge of each slab
forks : (held : List EdgeRecord) (xs : List ℤ) → sum_of (λ x. suc (length (slab_edges held (Some x)))) xs ≡ length xs + sum_of (crowd held) xs
forks held [] = refl
forks held (x ∷ xs) = omega (arith, forks held xs, length_sorted (from_below x) (covering x held), covering_crowd held x)

length_zones : (held : List EdgeRecord) → length (zones_of held) ≡ suc (length held)
length_zones held = ap suc (length-map held (λ e. e.zone))

at_most : (held : List EdgeRecord) → length (zone_figure held) ≤ length (zones_of held) + (length (bounds_of held) + square (length held))
at_most held =
    let bounds = bounds_of held in
    let same = elements_of bounds_before bounds_halve bounds in
    let run = weight_run (zones_of held) held (has_first (pos 0) (map (λ e. e.zone) held)) (zones_known held) (bush_of bounds_before bounds) None [] in
    nodes_at_most (zones_of held) (zone_figure held) (length bounds + square (length held))
    (omega (
      arith,
      run,
      ap (sum_of (λ x. suc (length (slab_edges held (Some x))))) same,
      forks held bounds,
      crowds_in_all held bounds (bounds_rise_strictly held) (all_bounds (ContainsAt (ends_of held)) held (ends_in_ends held)),
    ))

pub zone_figures_are_small_lem : ZoneFiguresAreSmall
zone_figures_are_small_lem held can =
    let few = (orderly held can).few in
    let crowding : square (length held) ≤ 4096 = square_rises (length held) 64 few in
    omega (arith, at_most held, length_zones held, length_bounds held)

pub sheets_suffice : SheetsSuffice
sheets_suffice held sheet can room =
    cond-true _ (Ok (length (zone_figure held))) (Err SheetTooSmall) (le-leb (length (zone_figure held)) (usable sheet) (omega (arith, zone_figures_are_small_lem held can)))
