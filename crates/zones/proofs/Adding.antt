-- Which refusal an add gets, in the order of its tests.
use Rattle.std.proofs.Common.{◌≡◌, ◌<◌, ◌≤◌, true, false, cond, not, leb, List, length, Some, None, ap, ◌∙◌}
use Rattle.std.proofs.lemmas.Bool.{cond-true, cond-false, le-leb, lt-leb}
use Rattle.refusal.specs.declared.Refusal.TheVariants.{NumberHeld, RegisterFull, EdgeConflict}
use Rattle.records.specs.declared.raw.EdgeRecord.{EdgeRecord}
use Rattle.records.specs.Held.{holds}
use Rattle.geometry.specs.Edge.{is_edge}
use Rattle.zones.specs.Edges.{number_of, add_refusal, room_for, conflicts_with_any}

module _ (held : List EdgeRecord) (e : EdgeRecord) (fields : is_edge e ≡ true) where
  past_range : add_refusal held e ≡ cond (holds number_of e.number held) (Some NumberHeld) (cond (leb room_for (length held)) (Some RegisterFull) (cond (conflicts_with_any e held) (Some EdgeConflict) None))
  past_range = cond-false (not (is_edge e)) _ _ (ap not fields)

  pub number_held : holds number_of e.number held ≡ true → add_refusal held e ≡ Some NumberHeld
  number_held h = past_range ∙ cond-true _ _ _ h

  module _ (free : holds number_of e.number held ≡ false) where
    pub register_full : 64 ≤ length held → add_refusal held e ≡ Some RegisterFull
    register_full full = past_range ∙ cond-false _ _ _ free ∙ cond-true _ _ _ (le-leb 64 (length held) full)

    module _ (room : length held < 64) where
      past_room : add_refusal held e ≡ cond (conflicts_with_any e held) (Some EdgeConflict) None
      past_room = past_range ∙ cond-false _ _ _ free ∙ cond-false _ _ _ (lt-leb 64 (length held) room)

      pub in_conflict : conflicts_with_any e held ≡ true → add_refusal held e ≡ Some EdgeConflict
      in_conflict h = past_room ∙ cond-true _ _ _ h

      pub not_refused : conflicts_with_any e held ≡ false → add_refusal held e ≡ None
      not_refused h = past_room ∙ cond-false _ _ _ h
