-- The sites that a register can hold.
use Rattle.std.proofs.Common.{◌≡◌, ◌<◌, true, false, cond, not, leb, List, length, Some, None}
use Rattle.std.proofs.lemmas.Bool.{leb-false, not-false}
use Rattle.refusal.specs.declared.Refusal.TheVariants.{FieldOutOfRange, NumberHeld, RegisterFull}
use Rattle.records.specs.declared.raw.SiteRecord.{SiteRecord}
use Rattle.records.specs.Held.{holds, is_before}
use Rattle.records.proofs.Holdable.{holdable_all, holdable_length, holdable_rising, before_apart}
use Rattle.records.proofs.Outcome.{first_passed, then_passed}
use Rattle.slices.proofs.Uniqueness.{same_from_members}
use Rattle.sites.specs.Site.{is_site, number_of, add_refusal, room_for}
use Rattle.sites.specs.Holdable.{HeldSitesAreOrderly, SameSitesSameList}

module _ (rs : List SiteRecord) (r : SiteRecord) (free : add_refusal rs r ≡ None) where
  added_is_site : is_site r ≡ true
  added_is_site = not-false (is_site r) (first_passed (not (is_site r)) FieldOutOfRange _ free)

  past_fields : cond (holds number_of (number_of r) rs) (Some NumberHeld) (cond (leb room_for (length rs)) (Some RegisterFull) None) ≡ None
  past_fields = then_passed (not (is_site r)) FieldOutOfRange _ free

  added_is_new : holds number_of (number_of r) rs ≡ false
  added_is_new = first_passed _ NumberHeld _ past_fields

  past_number : cond (leb room_for (length rs)) (Some RegisterFull) None ≡ None
  past_number = then_passed (holds number_of (number_of r) rs) NumberHeld _ past_fields

  added_has_room : length rs < 128
  added_has_room = leb-false room_for (length rs) (first_passed _ RegisterFull None past_number)

pub orderly : HeldSitesAreOrderly
orderly rs h =
    record {
      fields = holdable_all number_of add_refusal (λ r. is_site r ≡ true) added_is_site rs h;
      few = holdable_length number_of add_refusal 128 added_has_room rs h;
      numbers = holdable_rising number_of add_refusal added_is_new rs h;
    }

pub same_list : SameSitesSameList
same_list rs ss h k there back =
    same_from_members (is_before number_of) (before_apart number_of) rs ss (orderly rs h).numbers (orderly ss k).numbers there back
