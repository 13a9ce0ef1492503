use Rattle.std.proofs.Common.{◌≡◌, ◌≤◌, length, map, take}
use Rattle.sites.specs.Site.{raw_of}
use Rattle.sites.specs.Question.{sites_in}
use Rattle.slices.specs.Runs.{elements}
use Rattle.sites.proofs.register.SiteRegister.sites_in.Given as goal

-- The list has the sites inside among those looked at so far, and no more than were looked at.
abbrev pub invariant-loop-site : goal.invariant-loop-site
invariant-loop-site l =
    (elements l.inside ≡ sites_in (map raw_of (take l.site-index l.site-items)) l.question) × (length (elements l.inside) ≤ l.site-index)
