use Rattle.std.proofs.Common.{◌≡◌, ◌<◌, nat_le, length, ap, ◌∙◌, arith}
use Rattle.slices.specs.Order.{placed}
use Rattle.slices.specs.Runs.{elements}
use Rattle.slices.proofs.Placing.{length_placed}
use Rattle.slices.proofs.Runs.{inserted_with_room}
use Rattle.sites.specs.Question.{is_inside}
use Rattle.sites.specs.Site.{raw_of}
use Rattle.sites.proofs.Inside.{one_more_in, one_more_out}
use Rattle.sites.proofs.register.SiteRegister.sites_in.Goals as goal
use Rattle.sites.proofs.register.SiteRegister.sites_in.Goals.{then-is_inside+in-Ok, else-is_inside}

pub loop-site-preserved : goal.loop-site-preserved
loop-site-preserved c =
    let q = c.args.question.now in
    let sites = c.sites-site-items.result.now in
    let i = c.loop-site.site-index in
    let site = c.site-item.result in
    let before = elements c.loop-site.inside in
    let room : length before < 128 = omega (arith, c.loop-site.invariant.1, c.loop-site-test.true, c.sites-site-items.ensures.few) in
    elim c.if-is_inside.branch [
      | then-is_inside+in-Ok w ↦
          (let n = w.record_number.result in
          let is : elements c.if-is_inside.inside ≡ placed nat_le n before = ap elements w.inside-is ∙ w.insert.ensures.after ∙ inserted_with_room 128 before room nat_le n in (
            is ∙ ap (placed nat_le n) c.loop-site.invariant.0 ∙ one_more_in q sites i site c.loop-site-test.true n (w.record_number.ensures ∙ ap (λ s. s.number.value) c.site-item.is) (w.if-is_inside.ensures ∙ ap (λ s. is_inside q (raw_of s)) c.site-item.is),
            omega (arith, ap length is, length_placed nat_le n before, c.loop-site.invariant.1),
          ))
      | else-is_inside w ↦ (ap elements w.inside-is ∙ c.loop-site.invariant.0 ∙ one_more_out q sites i site c.loop-site-test.true (w.if-is_inside.ensures ∙ ap (λ s. is_inside q (raw_of s)) c.site-item.is), omega (arith, ap (λ l. length (elements l)) w.inside-is, c.loop-site.invariant.1))
    ]
