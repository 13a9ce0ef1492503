-- What a visit of a zone chart's rose emits and reads, node by node.
-- Assumes nothing.
use Rattle.std.proofs.Common.{◌≡◌, ℕ, suc, ◌+◌, ◌*◌, ◌≤◌, Bool, true, false, cond, List, [], ◌∷◌, length, ℤ, nat_abs, sym, refl, ap, ◌∙◌, subst, arith}
use Rattle.std.specs.List.{flat_map}
use Rattle.std.proofs.lemmas.List.{append-nil}
use Rattle.records.specs.declared.raw.Point.{Point}
use Rattle.node.specs.declared.kind.Kind.TheVariants.{Zone}
use Rattle.node.specs.Kinds.{number_of}
use Rattle.search.specs.Judging.{Judgement}
use Rattle.search.specs.Picks.{ahead, picks}
use Rattle.search.specs.Rose.{Rose, leaf, two}
use Rattle.search.specs.Visit.{visit, emissions_of, roses_bytes}
use Rattle.zone_figure.specs.Judge.{goes_to, zone_judging}

-- A visit emits one number, and reads at most so many strings and bytes.
pub record Visited (p : Point) (rose : Rose) (number strings bytes : ℕ) : Type 0 where
  pub emits : emissions_of zone_judging p (visit zone_judging p rose) ≡ number ∷ []
  pub few : length (visit zone_judging p rose) ≤ strings
  pub short : roses_bytes (visit zone_judging p rose) ≤ bytes

pub weaker : (p : Point) (rose : Rose) (number strings bytes strings' bytes' : ℕ) → strings ≤ strings' → bytes ≤ bytes' → Visited p rose number strings bytes → Visited p rose number strings' bytes'
weaker p rose number strings bytes strings' bytes' s b v =
    let few = v.few in
    let short = v.short in
    record { emits = v.emits; few = omega arith; short = omega arith }

pub visited_zone : (p : Point) (zone : ℤ) → Visited p (leaf (number_of Zone) (zone ∷ [])) (nat_abs zone) 1 8
visited_zone p zone = record { emits = refl; few = omega arith; short = omega arith }

pub chosen : (p : Point) (t : Bool) (a b : Rose) (m n strings bytes : ℕ) → Visited p a m strings bytes → Visited p b n strings bytes → Visited p (cond t a b) (cond t m n) strings bytes
chosen p true a b m n strings bytes v w = v
chosen p false a b m n strings bytes v w = w

module _ (p : Point) (kind : ℕ) (numbers : List ℤ) (a b : Rose) (t : Bool) (goes : zone_judging.judge p kind numbers ≡ goes_to (cond t 1 0)) where
  abbrev rose : Rose
  rose = two kind numbers a b

  onward : (s : Bool) → flat_map (λ visited. visited) (picks (visit zone_judging p a ∷ visit zone_judging p b ∷ []) (goes_to (cond s 1 0)).ways) ≡ visit zone_judging p (cond s b a)
  onward true = append-nil (visit zone_judging p b)
  onward false = append-nil (visit zone_judging p a)

  visit_fork : visit zone_judging p rose ≡ rose ∷ visit zone_judging p (cond t b a)
  visit_fork =
      ap (λ (j : Judgement). rose ∷ flat_map (λ visited. visited) (picks (visit zone_judging p a ∷ visit zone_judging p b ∷ []) j.ways)) goes
      ∙ ap (λ visited. rose ∷ visited) (onward t)

  pub visited_fork : (number strings bytes : ℕ) → Visited p (cond t b a) number strings bytes → Visited p rose number (suc strings) (4 + 4 * length numbers + 64 + bytes)
  visited_fork number strings bytes v =
      let few = v.few in
      let short = v.short in
      record {
        emits = ap (emissions_of zone_judging p) visit_fork ∙ ap (λ (j : Judgement). ahead j.emits (emissions_of zone_judging p (visit zone_judging p (cond t b a)))) goes ∙ v.emits;
        few = subst (λ visited. length visited ≤ suc strings) (sym visit_fork) (omega arith);
        short = subst (λ visited. roses_bytes visited ≤ 4 + 4 * length numbers + 64 + bytes) (sym visit_fork) (omega arith);
      }
