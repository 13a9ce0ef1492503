use Rattle.std.proofs.Common.{rules, ap, ◌∙◌}
use Rattle.std.proofs.lemmas.Iterator.{YieldsList-from_slice}
use Rattle.std.proofs.lemmas.Iterator.Search.{any_from_yields_List}
use borrow.Author.Tests.{tests}
use Rattle.geometry.specs.Conflict.{conflict}
use Rattle.geometry.specs.Held.{raw_of}
use Rattle.zones.specs.Edges.{conflicts_with_any}
use Rattle.zones.proofs.Conflicts.{conflicts_any}
use Rattle.zones.proofs.register.ZoneRegister.has_conflict.Goals as goal

pub returns : goal.returns
returns c =
    let e = raw_of c.args.edge.now in
    let edges = c.edges.result.now in
    any_from_yields_List (λ f. conflict e (raw_of f)) _ _ c.any.result c.any.ensures.ran (YieldsList-from_slice edges c.iter.ensures.rest) (λ f b q k. search (rules, tests))
    ∙ conflicts_any e edges
    ∙ ap (conflicts_with_any e) c.edges.ensures.held
