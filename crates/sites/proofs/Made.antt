-- A site is made exactly from a record whose fields are in range.
use Rattle.std.proofs.Common.{◌≡◌, cond, ℤ, Some, None, sym, ap, ◌∙◌}
use Rattle.std.proofs.lemmas.Bool.{and_from, and_right, cond-true, cond-false}
use Rattle.records.specs.declared.raw.SiteRecord.{SiteRecord}
use Rattle.records.specs.Range.{is_record_number, is_coordinate, kept_by}
use Rattle.records.proofs.Kept.{kept, missed}
use Rattle.sites.specs.Site.{is_site}

pub made : (from : SiteRecord) (n x y : ℤ) → Some n ≡ kept_by is_record_number from.number → Some x ≡ kept_by is_coordinate from.x → Some y ≡ kept_by is_coordinate from.y → Some (record { number = n; x = x; y = y }) ≡ cond (is_site from) (Some from) None
made from n x y kn kx ky =
    let n-is = kept is_record_number n from.number kn in
    let x-is = kept is_coordinate x from.x kx in
    let y-is = kept is_coordinate y from.y ky in
    let all = and_from _ _ (and_from _ _ n-is.0 x-is.0) y-is.0 in
    let same : ◌≡◌ {A = SiteRecord} (record { number = n; x = x; y = y }) from =
    ap (λ (m : ℤ). record { number = m; x = x; y = y }) n-is.1 ∙ ap (λ (m : ℤ). record { number = from.number; x = m; y = y }) x-is.1 ∙ ap (λ (m : ℤ). record { number = from.number; x = from.x; y = m }) y-is.1
    in
    ap Some same ∙ sym (cond-true (is_site from) (Some from) None all)

pub not_made : (from : SiteRecord) → None ≡ kept_by is_coordinate from.y → None ≡ cond (is_site from) (Some from) None
not_made from e = sym (cond-false (is_site from) (Some from) None (and_right _ _ (missed is_coordinate from.y e)))
