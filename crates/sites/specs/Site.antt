-- Sites: which records are sites, and when one may be added to those held.
use Rattle.std.specs.Prelude.{ℕ, Bool, cond, not, ◌&&◌, List, length, ℤ, pos, Some, None, Option, nat_le}
use Rattle.refusal.specs.declared.Refusal.{Refusal}
use Rattle.refusal.specs.declared.Refusal.TheVariants.{FieldOutOfRange, NumberHeld, RegisterFull}
use Rattle.records.specs.declared.raw.SiteRecord.{SiteRecord}
use Rattle.records.specs.Range.{is_coordinate, is_record_number}
use Rattle.records.specs.Held.{holds}
use Rattle.sites.specs.declared.site.Site.{Site}

abbrev pub number_of : SiteRecord → ℤ
number_of r = r.number

-- Every field is in its range.
abbrev pub is_site : SiteRecord → Bool
is_site r = is_record_number r.number && is_coordinate r.x && is_coordinate r.y

-- A register holds at most 128 sites.
abbrev pub room_for : ℕ
room_for = 128

-- Why a record is not added to those held, in the order of the tests.
abbrev pub add_refusal : List SiteRecord → SiteRecord → Option Refusal
add_refusal held r =
    cond (not (is_site r)) (Some FieldOutOfRange) (cond (holds number_of r.number held) (Some NumberHeld) (cond (nat_le room_for (length held)) (Some RegisterFull) None))

-- The record that a held site came from.
abbrev pub raw_of : Site → SiteRecord
raw_of s = record { number = pos s.number.value; x = s.x.value; y = s.y.value }
