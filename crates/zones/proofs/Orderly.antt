-- The edges that a register can hold.
use Rattle.std.proofs.Common.{◌≡◌, ◌<◌, true, false, cond, not, leb, List, [], ◌∷◌, length, take, drop, ℤ, Some, None, sym, subst, ⊎_elim}
use lib.Signed.{lt_z}
use Rattle.std.specs.List.{AllByRecursion}
use Rattle.std.proofs.lemmas.List.{take-append-drop}
use Rattle.std.proofs.lemmas.Bool.{cases_Bool, cond-true, cond-false, leb-false, not-false, and_parts, or_parts}
use Rattle.refusal.specs.declared.Refusal.TheVariants.{FieldOutOfRange, NumberHeld, RegisterFull, EdgeConflict}
use Rattle.records.specs.declared.raw.EdgeRecord.{EdgeRecord}
use Rattle.records.specs.Held.{same_number, holds, by_number, is_before, put_in, taken_out, fresh, added, removed}
use Rattle.records.proofs.Holdable.{holdable_all, holdable_length, holdable_rising, before_apart, all_taken_out}
use Rattle.records.proofs.Outcome.{first_passed, then_passed}
use Rattle.slices.specs.Order.{place_of}
use Rattle.slices.proofs.Placing.{placed_is}
use Rattle.slices.proofs.Uniqueness.{same_from_members}
use Rattle.algebra.proofs.Order.{int_lt→<ℤ}
use Rattle.geometry.specs.Edge.{is_edge}
use Rattle.geometry.specs.Conflict.{conflict}
use Rattle.slabs.specs.Topmost.{Apart, Wide}
use Rattle.slabs.proofs.Apart.{apart_placed}
use Rattle.slabs.proofs.Topmost.{named_by_one_edge, any_order_names_it}
use Rattle.zones.specs.Edges.{number_of, add_refusal, room_for, conflicts_with_any}
use Rattle.zones.specs.Holdable.{CanBeHeld, HeldEdgesAreOrderly, SameEdgesSameList, ZoneIsNamedByOneEdge, ZoneIsTheSameInAnyOrder}

module _ (rs : List EdgeRecord) (e : EdgeRecord) (free : add_refusal rs e ≡ None) where
  added_is_edge : is_edge e ≡ true
  added_is_edge = not-false (is_edge e) (first_passed (not (is_edge e)) FieldOutOfRange _ free)

  past_fields : cond (holds number_of (number_of e) rs) (Some NumberHeld) (cond (leb room_for (length rs)) (Some RegisterFull) (cond (conflicts_with_any e rs) (Some EdgeConflict) None)) ≡ None
  past_fields = then_passed (not (is_edge e)) FieldOutOfRange _ free

  added_is_new : holds number_of (number_of e) rs ≡ false
  added_is_new = first_passed _ NumberHeld _ past_fields

  past_number : cond (leb room_for (length rs)) (Some RegisterFull) (cond (conflicts_with_any e rs) (Some EdgeConflict) None) ≡ None
  past_number = then_passed (holds number_of (number_of e) rs) NumberHeld _ past_fields

  added_has_room : length rs < 64
  added_has_room = leb-false room_for (length rs) (first_passed _ RegisterFull _ past_number)

  past_room : cond (conflicts_with_any e rs) (Some EdgeConflict) None ≡ None
  past_room = then_passed (leb room_for (length rs)) RegisterFull _ past_number

  added_is_clear : conflicts_with_any e rs ≡ false
  added_is_clear = first_passed _ EdgeConflict None past_room

-- no conflict with any is no conflict with each
clear_of_each : (e : EdgeRecord) (rs : List EdgeRecord) → conflicts_with_any e rs ≡ false → AllByRecursion (λ f. conflict e f ≡ false) rs
clear_of_each e [] h = tt
clear_of_each e (f ∷ rs) h =
    let parts = or_parts (conflict e f) (conflicts_with_any e rs) h in (parts.0, clear_of_each e rs parts.1)

wide : (e : EdgeRecord) → is_edge e ≡ true → Wide e
wide e h = int_lt→<ℤ (and_parts _ (lt_z e.x1 e.x2) h).1

apart_taken_out : (n : ℤ) (rs : List EdgeRecord) → Apart rs → Apart (taken_out number_of n rs)
apart_taken_out n [] a = tt
apart_taken_out n (r ∷ rs) a =
    ⊎_elim
    (λ t. subst Apart (sym (cond-true _ rs (r ∷ taken_out number_of n rs) t)) a.2)
    (λ f. subst Apart (sym (cond-false _ rs (r ∷ taken_out number_of n rs) f)) (a.0, all_taken_out number_of (λ s. conflict r s ≡ false) n rs a.1, apart_taken_out n rs a.2))
    (cases_Bool (same_number (number_of r) n))

apart_put_in : (e : EdgeRecord) (rs : List EdgeRecord) → Wide e → AllByRecursion (λ f. conflict e f ≡ false) rs → Apart rs → Apart (put_in number_of e rs)
apart_put_in e rs w clear a =
    let k = place_of (by_number number_of) e rs in
    let whole = sym (take-append-drop k rs) in
    subst Apart (sym (placed_is (by_number number_of) e rs)) (apart_placed (take k rs) (drop k rs) e w (subst (AllByRecursion (λ f. conflict e f ≡ false)) whole clear) (subst Apart whole a))

apart : (rs : List EdgeRecord) → CanBeHeld rs → Apart rs
apart _ fresh = tt
apart _ (added {rs} e h free) =
    apart_put_in e rs (wide e (added_is_edge rs e free)) (clear_of_each e rs (added_is_clear rs e free)) (apart rs h)
apart _ (removed {rs} n h held) = apart_taken_out n rs (apart rs h)

pub orderly : HeldEdgesAreOrderly
orderly rs h =
    record {
      fields = holdable_all number_of add_refusal (λ r. is_edge r ≡ true) added_is_edge rs h;
      few = holdable_length number_of add_refusal 64 added_has_room rs h;
      numbers = holdable_rising number_of add_refusal added_is_new rs h;
      apart = apart rs h;
    }

pub same_list : SameEdgesSameList
same_list rs ss h k there back =
    same_from_members (is_before number_of) (before_apart number_of) rs ss (orderly rs h).numbers (orderly ss k).numbers there back

pub one_edge : ZoneIsNamedByOneEdge
one_edge rs px py e f h = named_by_one_edge rs px py e f (apart rs h)

pub any_order : ZoneIsTheSameInAnyOrder
any_order rs shuffled px py h = any_order_names_it rs shuffled px py (apart rs h)
