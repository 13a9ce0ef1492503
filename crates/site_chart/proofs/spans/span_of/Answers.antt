use Rattle.std.proofs.Common.{Option, map, unwrap_or, ℤ, pos, rules, tests, sym, ap, ◌∙◌, [], ◌∷◌, w32, SFits}
use Rattle.std.proofs.lemmas.Int.{to_z-of_z}
use Rattle.std.proofs.lemmas.Simd.{map-map}
use Rattle.site_figure.specs.Figure.{least, greatest}
use Rattle.std.proofs.lemmas.Iterator.{YieldsList-from_slice, YieldsList-from_map}
use Rattle.std.proofs.lemmas.Iterator.Consumers.{reduce_from_yields_List}
use Rattle.sites.specs.Site.{raw_of}
use Rattle.site_chart.specs.declared.orders.Along.{Along}
use Rattle.site_chart.proofs.Extremes.{lesser, greater, least_reduced, greatest_reduced}
use Rattle.site_chart.proofs.spans.span_of.Goals as goal

pub returns : goal.returns
returns g c =
    let sites = c.args.sites.now in
    let at = λ (s : Along _). g.A.Axis.coordinate (raw_of s.site) in
    let low = c.unwrap_or-least.ensures ∙ ap (λ (o : Option ℤ). unwrap_or o (pos 0)) (reduce_from_yields_List lesser c.map-coordinates.result _ c.min.ensures.ran (YieldsList-from_map _ at (YieldsList-from_slice sites cc) c.map-coordinates.ensures.closure (λ x b q k. search (rules, tests)))) ∙ least_reduced (map at sites) in
    let high = c.unwrap_or-greatest.ensures ∙ ap (λ (o : Option ℤ). unwrap_or o (pos 0)) (reduce_from_yields_List greater c.map-coordinates-2.result _ c.max.ensures.ran (YieldsList-from_map _ at (YieldsList-from_slice sites cc) c.map-coordinates-2.ensures.closure (λ x b q k. search (rules, tests)))) ∙ greatest_reduced (map at sites) in
    let fused = map-map g.A.Axis.coordinate (λ (s : Along _). raw_of s.site) sites in
    let low_fits : SFits w32 c.unwrap_or-least.result = search rules in
    let high_fits : SFits w32 c.unwrap_or-greatest.result = search rules in
    let first = to_z-of_z w32 _ low_fits ∙ low ∙ ap least (sym fused) in
    let second = to_z-of_z w32 _ high_fits ∙ high ∙ ap greatest (sym fused) in
    λ i. first i ∷ second i ∷ []
