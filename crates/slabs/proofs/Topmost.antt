-- The topmost edge under a point names its zone, and among records that do not conflict it is the only one.
-- Assumes nothing.
use Rattle.std.proofs.Common.{◌≡◌, Bool, true, false, cond, ◌⊎◌, List, [], ◌∷◌, ℤ, Some, None, Option, sym, refl, ap, subst, inl, inr, ⊎_elim}
use Rattle.std.specs.List.{ContainsAt, AllByRecursion}
use Rattle.std.specs.List.Sorted.{IsPermutation}
use Rattle.std.proofs.ByRecursion.{all-has, all_kept_by, has_shuffled, all_shuffled}
use Rattle.std.proofs.lemmas.List.Sorted.{IsPermutation-sym}
use Rattle.std.proofs.lemmas.Bool.{both_ways, and_parts, cases_Bool}
use Rattle.records.specs.declared.raw.EdgeRecord.{EdgeRecord}
use Rattle.geometry.specs.Fraction.{whole, at_most}
use Rattle.geometry.specs.Edge.{covers, height, lies_under}
use Rattle.geometry.specs.Conflict.{conflict}
use Rattle.slabs.specs.Topmost.{is_under, under, highest, topmost, zone_above, Wide, Apart, Named, TopmostNamesTheZone, NamedByOneEdge, ZoneIsThatNamed, ZoneOfOpenGround, AnyOrderNamesIt}
use Rattle.slabs.proofs.Order.{one_or_level, higher→under, never_the_same}
use Rattle.slabs.proofs.Ranking.{never_under_itself, never_under_each_other, not_under_transitive}
use Rattle.slabs.proofs.Elements.{has_none, has_first, has_later, all_from_has, kept→has, kept→passes, has→kept, none_kept}
use Rattle.slabs.proofs.Apart.{all_wide, same_or_apart}

-- ---- the best of a list
-- t is the best so far or an edge of the list, and lies under none of them
pub record Best (x : ℤ) (best : EdgeRecord) (records : List EdgeRecord) (t : EdgeRecord) : Type 0 where
  pub is_one : (best ≡ t) ⊎ ContainsAt records t
  pub not_under_best : lies_under x t best ≡ false
  pub not_under : AllByRecursion (λ f. lies_under x t f ≡ false) records

pub highest_is_best : (x : ℤ) (best : EdgeRecord) (records : List EdgeRecord) → Wide best → AllByRecursion Wide records → (t : EdgeRecord) × (highest x (Some best) records ≡ Some t) × Best x best records t × Wide t
highest_is_best x best [] w ws = (best, refl, record { is_one = inl refl; not_under_best = never_under_itself x best; not_under = tt }, w)
highest_is_best x best (e ∷ records) w ws = by (lies_under x best e) refl (highest_is_best x e records ws.0 ws.1) (highest_is_best x best records w ws.1)
  where
    Found : EdgeRecord → Type 0
    Found b = (t : EdgeRecord) × (highest x (Some b) records ≡ Some t) × Best x b records t × Wide t

    by : (u : Bool) → lies_under x best e ≡ u → Found e → Found best → (t : EdgeRecord) × (highest x (Some (cond u e best)) records ≡ Some t) × Best x best (e ∷ records) t × Wide t
    by true q f g = let b = f.2 in (
      f.0,
      f.1,
      record {
        is_one = inr (⊎_elim (λ p. subst (λ z. ContainsAt (e ∷ records) z) p (has_first e records)) (has_later e records f.0) b.is_one);
        not_under_best = not_under_transitive x f.0 e best f.3 ws.0 w b.not_under_best (never_under_each_other x best e q);
        not_under = (b.not_under_best, b.not_under);
      },
      f.3,
    )
    by false q f g = let b = g.2 in (
      g.0,
      g.1,
      record {
        is_one = ⊎_elim inl (λ p. inr (has_later e records g.0 p)) b.is_one;
        not_under_best = b.not_under_best;
        not_under = (not_under_transitive x g.0 best e g.3 w ws.0 b.not_under_best q, b.not_under);
      },
      g.3,
    )

-- nothing of an empty list, or one that lies under none of the others
abbrev pub Top : ℤ → List EdgeRecord → Option EdgeRecord → Type 0
Top x records None = records ≡ []
Top x records (Some t) = ContainsAt records t × AllByRecursion (λ f. lies_under x t f ≡ false) records

pub topmost_is_top : (x : ℤ) (records : List EdgeRecord) → AllByRecursion Wide records → Top x records (topmost x records)
topmost_is_top x [] ws = refl
topmost_is_top x (e ∷ records) ws =
    let found = highest_is_best x e records ws.0 ws.1 in
    let b = found.2 in
    subst (Top x (e ∷ records)) (sym found.1)
    (⊎_elim (λ p. subst (λ z. ContainsAt (e ∷ records) z) p (has_first e records)) (has_later e records found.0) b.is_one, (b.not_under_best, b.not_under))

-- ---- of the edges under a point
top→named : (records : List EdgeRecord) (px py : ℤ) (o : Option EdgeRecord) → Top px (under px py records) o → Named records px py o
top→named records px py None none = all_from_has (λ e. is_under px py e ≡ false) records
    (λ e h. ⊎_elim (λ t. absurd (has_none e (subst (λ l. ContainsAt l e) none (has→kept (is_under px py) records e h t)))) (λ t. t) (cases_Bool (is_under px py e)))
top→named records px py (Some e) top = record {
  is_among = kept→has (is_under px py) records e top.0;
  under = kept→passes (is_under px py) records e top.0;
  none_higher = λ f h t. all-has (λ g. lies_under px e g ≡ false) (under px py records) f top.1 (has→kept (is_under px py) records f h t);
}

pub topmost_names_the_zone : TopmostNamesTheZone
topmost_names_the_zone records px py ws = top→named records px py (topmost px (under px py records)) (topmost_is_top px (under px py records) (all_kept_by (is_under px py) Wide records ws))

-- ---- only one
pub named_by_one_edge : NamedByOneEdge
named_by_one_edge records px py e f a n m = ⊎_elim (λ same. same) (λ apart. absurd (never_two apart)) (same_or_apart records e f a n.is_among m.is_among)
  where
    covering : (g : EdgeRecord) → is_under px py g ≡ true → covers g px ≡ true
    covering g t = (and_parts (covers g px) (at_most (height g px) (whole py)) t).0

    never_two : conflict e f ≡ false → ⊥
    never_two apart =
        ⊎_elim (λ h. both_ways (lies_under px e f) (n.none_higher f m.is_among m.under) (higher→under px e f h))
        (⊎_elim (λ h. both_ways (lies_under px f e) (m.none_higher e n.is_among n.under) (higher→under px f e h))
        (λ h. never_the_same px e f (covering e n.under) (covering f m.under) apart h.0 h.1))
        (one_or_level px e f)

-- what is named is one outcome
pub named_once : (records : List EdgeRecord) (px py : ℤ) → Apart records → (o p : Option EdgeRecord) → Named records px py o → Named records px py p → o ≡ p
named_once records px py a None None n m = refl
named_once records px py a None (Some f) n m = absurd (both_ways (is_under px py f) (all-has (λ e. is_under px py e ≡ false) records f n m.is_among) m.under)
named_once records px py a (Some e) None n m = absurd (both_ways (is_under px py e) (all-has (λ f. is_under px py f ≡ false) records e m n.is_among) n.under)
named_once records px py a (Some e) (Some f) n m = ap Some (named_by_one_edge records px py e f a n m)

pub zone_is_that_named : ZoneIsThatNamed
zone_is_that_named records px py e a n = ap zone_above (named_once records px py a (topmost px (under px py records)) (Some e) (topmost_names_the_zone records px py (all_wide records a)) n)

pub zone_of_open_ground : ZoneOfOpenGround
zone_of_open_ground records px py none = ap (λ l. zone_above (topmost px l)) (none_kept (is_under px py) records none)

-- ---- in any order
named_shuffled : (records shuffled : List EdgeRecord) (px py : ℤ) → IsPermutation records shuffled → (o : Option EdgeRecord) → Named records px py o → Named shuffled px py o
named_shuffled records shuffled px py s None n = all_shuffled (λ e. is_under px py e ≡ false) records shuffled s n
named_shuffled records shuffled px py s (Some e) n = record {
  is_among = has_shuffled records shuffled e s n.is_among;
  under = n.under;
  none_higher = λ f h t. n.none_higher f (has_shuffled shuffled records f (IsPermutation-sym records shuffled s) h) t;
}

pub topmost_shuffled : (records shuffled : List EdgeRecord) (px py : ℤ) → Apart records → IsPermutation records shuffled → topmost px (under px py records) ≡ topmost px (under px py shuffled)
topmost_shuffled records shuffled px py a s = named_once records px py a (topmost px (under px py records)) (topmost px (under px py shuffled))
    (topmost_names_the_zone records px py (all_wide records a))
    (named_shuffled shuffled records px py (IsPermutation-sym records shuffled s) (topmost px (under px py shuffled)) (topmost_names_the_zone shuffled px py (all_shuffled Wide records shuffled s (all_wide records a))))

pub any_order_names_it : AnyOrderNamesIt
any_order_names_it records shuffled px py a s = ap zone_above (topmost_shuffled records shuffled px py a s)
