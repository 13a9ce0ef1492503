use Rattle.std.proofs.Common.{◌≡◌, true, map, take}
use Rattle.std.specs.List.{AllByRecursion}
use Rattle.sites.specs.Site.{is_site, raw_of}
use Rattle.site_chart.proofs.drawn.read_numbers.Given as goal

-- Those before are sites.
abbrev pub invariant-loop-site : goal.invariant-loop-site
invariant-loop-site l = AllByRecursion (λ r. is_site r ≡ true) (map raw_of (take l.site-index l.sites))
