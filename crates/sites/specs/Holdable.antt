-- What is true of the sites that a register can hold.
use Rattle.std.specs.Prelude.{◌≡◌, ◌≤◌, true, List, length}
use Rattle.std.specs.List.{ContainsAt, AllByRecursion}
use Rattle.records.specs.declared.raw.SiteRecord.{SiteRecord}
use Rattle.records.specs.Held.{Holdable, is_before}
use Rattle.slices.specs.Order.{rising}
use Rattle.sites.specs.Site.{is_site, number_of, add_refusal}

abbrev pub CanBeHeld : List SiteRecord → Type 0
CanBeHeld = Holdable number_of add_refusal

-- Each is a site, there are at most 128, and their numbers rise.
pub record Orderly (rs : List SiteRecord) : Type 0 where
  pub fields : AllByRecursion (λ r. is_site r ≡ true) rs
  pub few : length rs ≤ 128
  pub numbers : rising (is_before number_of) rs ≡ true

abbrev pub HeldSitesAreOrderly : Type 0
HeldSitesAreOrderly = (rs : List SiteRecord) → CanBeHeld rs → Orderly rs

-- Two registers with the same members hold the same list.
abbrev pub SameSitesSameList : Type 0
SameSitesSameList =
    (rs ss : List SiteRecord) → CanBeHeld rs → CanBeHeld ss → ((r : SiteRecord) → ContainsAt rs r → ContainsAt ss r) → ((r : SiteRecord) → ContainsAt ss r → ContainsAt rs r) → rs ≡ ss
