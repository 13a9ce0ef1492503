use Rattle.std.proofs.Common.{◌≡◌, true, false, Bool, IfSome, Some, None, Option, if◌then◌else◌, refl, rules}
use Rattle.std.specs.Option.{is_some, option_map}
use Rattle.records.specs.declared.raw.SiteRecord.{SiteRecord}
use Rattle.sites.specs.declared.site.Site.{Site}
use Rattle.sites.specs.Site.{is_site, raw_of}
use Rattle.site_chart.specs.Told.{site_told}
use Rattle.site_chart.proofs.fit.fit_site.Goals as goal

made : (o : Option Site) (b : Bool) (r : SiteRecord) → option_map raw_of o ≡ (if b then Some r else None) → is_some o ≡ b × IfSome o (λ s. raw_of s ≡ r)
made None true r e = cc
made None false r e = (refl, tt)
made (Some s) true r e = let same : Some (raw_of s) ≡ Some r = e in (refl, cc)
made (Some s) false r e = cc

pub returns-clause-fit : goal.returns-clause-fit
returns-clause-fit c = (made c.new.result (is_site (site_told c.args.number c.args.x c.args.y)) (site_told c.args.number c.args.x c.args.y) (search rules)).0

pub returns-clause-told : goal.returns-clause-told
returns-clause-told c = (made c.new.result (is_site (site_told c.args.number c.args.x c.args.y)) (site_told c.args.number c.args.x c.args.y) (search rules)).1
