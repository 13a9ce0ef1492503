-- A visit goes down the bush of a run's bounds, and then down the bush of the slab's edges.
-- Assumes nothing.
use Rattle.std.proofs.Common.{◌≡◌, ℕ, suc, ◌+◌, ◌*◌, ◌≤◌, max, Bool, true, false, cond, not, List, [], ◌∷◌, ℤ, nat_abs, Some, Option, refl, subst, arith}
use lib.Signed.{lt_z}
use Rattle.records.specs.declared.raw.EdgeRecord.{EdgeRecord}
use Rattle.records.specs.declared.raw.Point.{Point}
use Rattle.node.specs.declared.kind.Kind.TheVariants.{Split, Edge}
use Rattle.node.specs.Kinds.{number_of}
use Rattle.search.specs.Rose.{levels}
use Rattle.zone_figure.specs.Judge.{is_above, goes_to}
use Rattle.zone_figure.specs.Halving.{Bush, bare, fork}
use Rattle.zone_figure.specs.Slab.{edge_tree, slab_tree}
use Rattle.zone_figure.specs.Figure.{run_tree}
use Rattle.zone_figure.proofs.Halving.{depth}
use Rattle.zone_figure.proofs.Finding.{found}
use Rattle.zone_figure.proofs.Visiting.{Visited, weaker, visited_zone, chosen, visited_fork}

abbrev pub is_over : Point → EdgeRecord → Bool
is_over p e = is_above p e.x1 e.y1 e.x2 e.y2

abbrev pub zone_over : EdgeRecord → ℤ
zone_over e = e.zone

abbrev pub is_east_of : Point → ℤ → Bool
is_east_of p x = not (lt_z p.x x)

abbrev pub west_of : ℤ → Option ℤ
west_of x = Some x

nat_abs_cond : (t : Bool) (a b : ℤ) → cond t (nat_abs a) (nat_abs b) ≡ nat_abs (cond t a b)
nat_abs_cond true a b = refl
nat_abs_cond false a b = refl

pub visited_edges : (p : Point) (bush : Bush EdgeRecord) (ground : ℤ)
    → Visited p (edge_tree ground bush) (nat_abs (found (is_over p) zone_over ground bush)) (suc (depth bush)) (84 * depth bush + 8)
visited_edges p bare ground = visited_zone p ground
visited_edges p (fork low e high) ground =
    let d : ℕ = max (depth low) (depth high) in
    let up = found (is_over p) zone_over e.zone high in
    let down = found (is_over p) zone_over ground low in
    let above = weaker p (edge_tree e.zone high) (nat_abs up) (suc (depth high)) (84 * depth high + 8) (suc d) (84 * d + 8) (omega arith) (omega arith) (visited_edges p high e.zone) in
    let below = weaker p (edge_tree ground low) (nat_abs down) (suc (depth low)) (84 * depth low + 8) (suc d) (84 * d + 8) (omega arith) (omega arith) (visited_edges p low ground) in
    let way = chosen p (is_over p e) (edge_tree e.zone high) (edge_tree ground low) (nat_abs up) (nat_abs down) (suc d) (84 * d + 8) above below in
    let whole = visited_fork p (number_of Edge) (e.x1 ∷ e.y1 ∷ e.x2 ∷ e.y2 ∷ []) (edge_tree ground low) (edge_tree e.zone high) (is_over p e) refl (cond (is_over p e) (nat_abs up) (nat_abs down)) (suc d) (84 * d + 8) way in
    subst (λ n. Visited p (edge_tree ground (fork low e high)) n (suc (suc d)) (84 * suc d + 8)) (nat_abs_cond (is_over p e) up down)
    (weaker p (edge_tree ground (fork low e high)) (cond (is_over p e) (nat_abs up) (nat_abs down)) (suc (suc d)) (4 + 4 * 4 + 64 + (84 * d + 8)) (suc (suc d)) (84 * suc d + 8) (omega arith) (omega arith) whole)

turned : (t : Bool) → goes_to (cond t 0 1) ≡ goes_to (cond (not t) 1 0)
turned true = refl
turned false = refl

cond_at : {A : Type 0} (f : A → ℕ) (t : Bool) (a b : A) → cond t (f a) (f b) ≡ f (cond t a b)
cond_at f true a b = refl
cond_at f false a b = refl

module _ (p : Point) (held : List EdgeRecord) (number : Option ℤ → ℕ) (strings bytes : ℕ)
    (slabs : (west : Option ℤ) → Visited p (slab_tree held west) (number west) strings bytes) where
  pub visited_run : (bush : Bush ℤ) (west : Option ℤ)
      → Visited p (run_tree held west bush) (number (found (is_east_of p) west_of west bush)) (depth bush + strings) (72 * depth bush + bytes)
  visited_run bare west =
      weaker p (slab_tree held west) (number west) strings bytes (0 + strings) (72 * 0 + bytes) (omega arith) (omega arith) (slabs west)
  visited_run (fork low x high) west =
      let d : ℕ = max (depth low) (depth high) in
      let up = found (is_east_of p) west_of (Some x) high in
      let down = found (is_east_of p) west_of west low in
      let above = weaker p (run_tree held (Some x) high) (number up) (depth high + strings) (72 * depth high + bytes) (d + strings) (72 * d + bytes) (omega arith) (omega arith) (visited_run high (Some x)) in
      let below = weaker p (run_tree held west low) (number down) (depth low + strings) (72 * depth low + bytes) (d + strings) (72 * d + bytes) (omega arith) (omega arith) (visited_run low west) in
      let way = chosen p (is_east_of p x) (run_tree held (Some x) high) (run_tree held west low) (number up) (number down) (d + strings) (72 * d + bytes) above below in
      let whole = visited_fork p (number_of Split) (x ∷ []) (run_tree held west low) (run_tree held (Some x) high) (is_east_of p x) (turned (lt_z p.x x)) (cond (is_east_of p x) (number up) (number down)) (d + strings) (72 * d + bytes) way in
      subst (λ n. Visited p (run_tree held west (fork low x high)) n (suc d + strings) (72 * suc d + bytes)) (cond_at number (is_east_of p x) up down)
      (weaker p (run_tree held west (fork low x high)) (cond (is_east_of p x) (number up) (number down)) (suc (d + strings)) (4 + 4 * 1 + 64 + (72 * d + bytes)) (suc d + strings) (72 * suc d + bytes) (omega arith) (omega arith) whole)

-- ---- levels
pub levels_of_edges : (bush : Bush EdgeRecord) (ground : ℤ) → levels (edge_tree ground bush) ≤ suc (depth bush)
levels_of_edges bare ground = omega arith
levels_of_edges (fork low e high) ground =
    let below = levels_of_edges low ground in let above = levels_of_edges high e.zone in omega arith

pub levels_of_run : (held : List EdgeRecord) (most : ℕ) → ((west : Option ℤ) → levels (slab_tree held west) ≤ most)
    → (bush : Bush ℤ) (west : Option ℤ) → levels (run_tree held west bush) ≤ depth bush + most
levels_of_run held most slabs bare west = let slab = slabs west in omega arith
levels_of_run held most slabs (fork low x high) west =
    let below = levels_of_run held most slabs low west in
    let above = levels_of_run held most slabs high (Some x) in
    omega arith
