use Rattle.std.proofs.Common.{◌≡◌, ◌++◌, take, vec_items}
use Rattle.std.specs.List.{flat_map}
use Rattle.sites.specs.Register.{held}
use Rattle.script.specs.Lines.{ended, line_of_site}
use Rattle.chart.proofs.session.lists.list_sites.Given as goal

-- The lines of the records so far stand at the end.
abbrev pub invariant-loop-site : goal.invariant-loop-site
invariant-loop-site l =
    vec_items l.out ≡ vec_items l.initial.out ++ flat_map (λ r. ended (line_of_site r)) (take l.site-index (held l.fn.register))
