-- Which refusal an add gets, in the order of its tests.
use Rattle.std.proofs.Common.{◌≡◌, ◌<◌, ◌≤◌, true, false, cond, not, leb, List, length, Some, None, ap, ◌∙◌}
use Rattle.std.proofs.lemmas.Bool.{cond-true, cond-false, le-leb, lt-leb}
use Rattle.refusal.specs.declared.Refusal.TheVariants.{NumberHeld, RegisterFull}
use Rattle.records.specs.declared.raw.SiteRecord.{SiteRecord}
use Rattle.records.specs.Held.{holds}
use Rattle.sites.specs.Site.{is_site, number_of, add_refusal, room_for}

module _ (held : List SiteRecord) (r : SiteRecord) (fields : is_site r ≡ true) where
  past_range : add_refusal held r ≡ cond (holds number_of r.number held) (Some NumberHeld) (cond (leb room_for (length held)) (Some RegisterFull) None)
  past_range = cond-false (not (is_site r)) _ _ (ap not fields)

  pub number_held : holds number_of r.number held ≡ true → add_refusal held r ≡ Some NumberHeld
  number_held e = past_range ∙ cond-true _ _ _ e

  module _ (free : holds number_of r.number held ≡ false) where
    pub register_full : 128 ≤ length held → add_refusal held r ≡ Some RegisterFull
    register_full full = past_range ∙ cond-false _ _ _ free ∙ cond-true _ _ _ (le-leb 128 (length held) full)

    pub not_refused : length held < 128 → add_refusal held r ≡ None
    not_refused room = past_range ∙ cond-false _ _ _ free ∙ cond-false _ _ _ (lt-leb 128 (length held) room)
