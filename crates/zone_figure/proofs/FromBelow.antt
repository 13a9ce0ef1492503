-- The edges of a slab, sorted at its west bound: each lies under every one after it, there and at every x that all of them cover.
-- Assumes nothing.
use Rattle.std.proofs.Common.{◌≡◌, true, false, List, [], ◌∷◌, ℤ, sym, ◌∙◌}
use Rattle.std.specs.List.{AllByRecursion}
use Rattle.std.proofs.lemmas.Bool.{cond_both}
use Rattle.records.specs.declared.raw.EdgeRecord.{EdgeRecord}
use Rattle.slices.specs.Order.{placed, placed_each, sorted}
use Rattle.slices.proofs.Placing.{all_placed}
use Rattle.geometry.specs.Edge.{covers, lies_under}
use Rattle.geometry.specs.Conflict.{conflict}
use Rattle.geometry.specs.Rank.{rank_at}
use Rattle.geometry.specs.RankOrder.{rank_total}
use Rattle.geometry.proofs.LiesUnder.{listed→lies_under}
use Rattle.slabs.specs.Slab.{Neighbours}
use Rattle.slabs.specs.Topmost.{Apart}
use Rattle.slabs.proofs.Symmetry.{conflict_symmetric}
use Rattle.slabs.proofs.Pairwise.{Pairwise}
use Rattle.slabs.proofs.Order.{order_is_kept, never_level}
use Rattle.slabs.proofs.Ranking.{under_transitive}
use Rattle.zone_figure.specs.Slab.{from_below}

abbrev pub Under : ℤ → EdgeRecord → EdgeRecord → Type 0
Under x e f = lies_under x e f ≡ true

abbrev pub AllCover : ℤ → List EdgeRecord → Type 0
AllCover x = AllByRecursion (λ e. covers e x ≡ true)

turned : (w : ℤ) (e f : EdgeRecord) → Neighbours w e f → Neighbours w f e
turned w e f n = record {
  e_wide = n.f_wide;
  f_wide = n.e_wide;
  e_covers = n.f_covers;
  f_covers = n.e_covers;
  apart = conflict_symmetric e f ∙ n.apart;
}

-- edges that do not conflict and all cover w
pub neighbours_each : (w : ℤ) (edges : List EdgeRecord) → Apart edges → AllCover w edges → Pairwise (Neighbours w) edges
neighbours_each w [] a c = tt
neighbours_each w (e ∷ edges) a c = (from edges a.1 a.2 c.1, neighbours_each w edges a.2 c.1)
  where
    from : (rest : List EdgeRecord) → AllByRecursion (λ f. conflict e f ≡ false) rest → Apart rest → AllCover w rest → AllByRecursion (Neighbours w e) rest
    from [] clear b d = tt
    from (f ∷ rest) clear b d =
        (record { e_wide = a.0; f_wide = b.0; e_covers = c.0; f_covers = d.0; apart = clear.0 }, from rest clear.1 b.2 d.1)

module _ (w : ℤ) where
  under_from_listed : (e f : EdgeRecord) → Neighbours w e f → from_below w e f ≡ true → Under w e f
  under_from_listed e f n h = listed→lies_under w e f (never_level w e f n) h

  under_from_not_listed : (e f : EdgeRecord) → Neighbours w e f → from_below w e f ≡ false → Under w f e
  under_from_not_listed e f n h = under_from_listed f e (turned w e f n) (rank_total (rank_at w e) (rank_at w f) h)

  under_each : (e f : EdgeRecord) (edges : List EdgeRecord) → Neighbours w f e → Under w e f → AllByRecursion (λ g. Neighbours w g e) edges → AllByRecursion (Under w f) edges → AllByRecursion (Under w e) edges
  under_each e f [] n u near h = tt
  under_each e f (g ∷ edges) n u near h =
      (under_transitive w e f g n.f_wide n.e_wide near.0.e_wide u h.0, under_each e f edges n u near.1 h.1)

  placed_under : (e : EdgeRecord) (edges : List EdgeRecord) → AllByRecursion (λ g. Neighbours w g e) edges → Pairwise (Under w) edges → Pairwise (Under w) (placed (from_below w) e edges)
  placed_under e [] near h = (tt, tt)
  placed_under e (f ∷ edges) near h =
      let later = placed_under e edges near.1 h.1 in
      cond_both (from_below w f e) (f ∷ placed (from_below w) e edges) (e ∷ f ∷ edges) (Pairwise (Under w))
      (λ t. (all_placed (Under w f) (from_below w) e edges (under_from_listed f e near.0 t) h.0, later))
      (λ t. let under = under_from_not_listed f e near.0 t in ((under, under_each e f edges near.0 under near.1 h.0), h))

  near_placed : (e : EdgeRecord) (kept edges : List EdgeRecord) → AllByRecursion (Neighbours w e) edges → AllByRecursion (λ f. AllByRecursion (λ g. Neighbours w g f) kept) edges → AllByRecursion (λ f. AllByRecursion (λ g. Neighbours w g f) (placed (from_below w) e kept)) edges
  near_placed e kept [] near h = tt
  near_placed e kept (f ∷ edges) near h =
      (all_placed (λ g. Neighbours w g f) (from_below w) e kept near.0 h.0, near_placed e kept edges near.1 h.1)

  placed_each_under : (kept edges : List EdgeRecord) → Pairwise (Under w) kept → AllByRecursion (λ f. AllByRecursion (λ g. Neighbours w g f) kept) edges → Pairwise (Neighbours w) edges → Pairwise (Under w) (placed_each (from_below w) kept edges)
  placed_each_under kept [] h near n = h
  placed_each_under kept (e ∷ edges) h near n =
      placed_each_under (placed (from_below w) e kept) edges (placed_under e kept near.0 h) (near_placed e kept edges n.0 near.1) n.1

  near_none : (edges : List EdgeRecord) → AllByRecursion (λ f. AllByRecursion (λ g. Neighbours w g f) []) edges
  near_none [] = tt
  near_none (e ∷ edges) = (tt, near_none edges)

  pub sorted_under : (edges : List EdgeRecord) → Apart edges → AllCover w edges → Pairwise (Under w) (sorted (from_below w) edges)
  sorted_under edges a c = placed_each_under [] edges tt (near_none edges) (neighbours_each w edges a c)

-- the order at w is that at x
pub under_moved : (w x : ℤ) (edges : List EdgeRecord) → Apart edges → AllCover w edges → AllCover x edges → Pairwise (Under w) edges → Pairwise (Under x) edges
under_moved w x edges a c d = by edges (neighbours_each w edges a c) (neighbours_each x edges a d)
  where
    each : (e : EdgeRecord) (rest : List EdgeRecord) → AllByRecursion (Neighbours w e) rest → AllByRecursion (Neighbours x e) rest → AllByRecursion (Under w e) rest → AllByRecursion (Under x e) rest
    each e [] n m h = tt
    each e (f ∷ rest) n m h = (sym (order_is_kept w x e f n.0 m.0) ∙ h.0, each e rest n.1 m.1 h.1)

    by : (rest : List EdgeRecord) → Pairwise (Neighbours w) rest → Pairwise (Neighbours x) rest → Pairwise (Under w) rest → Pairwise (Under x) rest
    by [] n m h = tt
    by (e ∷ rest) n m h = (each e rest n.0 m.0 h.0, by rest n.1 m.1 h.1)
