-- The sites inside a rectangle, one more site looked at.
use Rattle.std.proofs.Common.{◌≡◌, ℕ, ◌+◌, ◌<◌, true, false, cond, leb, List, [], ◌∷◌, ◌++◌, map, length, get_or, take, nat_abs, sym, ap, ◌∙◌, ⊎_elim}
use Rattle.std.proofs.lemmas.List.{map_push, map_more}
use Rattle.std.proofs.lemmas.Bool.{cases_Bool, cond-true, cond-false}
use Rattle.records.specs.declared.raw.SiteRecord.{SiteRecord}
use Rattle.records.specs.declared.raw.Rectangle.{Rectangle}
use Rattle.slices.specs.Order.{placed, sorted}
use Rattle.slices.proofs.SortedLists.{sorted_push}
use Rattle.sites.specs.declared.site.Site.{Site}
use Rattle.sites.specs.Site.{raw_of}
use Rattle.sites.specs.Question.{is_inside, inside, sites_in}

module _ (q : Rectangle) (s : SiteRecord) where
  inside_in : is_inside q s ≡ true → (rs : List SiteRecord) → inside q (rs ++ s ∷ []) ≡ inside q rs ++ s ∷ []
  inside_in e [] = cond-true _ _ _ e
  inside_in e (r ∷ rs) =
      ⊎_elim
      (λ t. cond-true _ _ _ t ∙ ap (λ (l : List SiteRecord). r ∷ l) (inside_in e rs) ∙ ap (λ (l : List SiteRecord). l ++ s ∷ []) (sym (cond-true _ (r ∷ inside q rs) (inside q rs) t)))
      (λ f. cond-false _ _ _ f ∙ inside_in e rs ∙ ap (λ (l : List SiteRecord). l ++ s ∷ []) (sym (cond-false _ (r ∷ inside q rs) (inside q rs) f)))
      (cases_Bool (is_inside q r))

  inside_out : is_inside q s ≡ false → (rs : List SiteRecord) → inside q (rs ++ s ∷ []) ≡ inside q rs
  inside_out e [] = cond-false _ _ _ e
  inside_out e (r ∷ rs) = ap (λ (l : List SiteRecord). cond (is_inside q r) (r ∷ l) l) (inside_out e rs)

  pub sites_in_in : is_inside q s ≡ true → (rs : List SiteRecord) → sites_in (rs ++ s ∷ []) q ≡ placed leb (nat_abs s.number) (sites_in rs q)
  sites_in_in e rs =
      ap (λ (l : List SiteRecord). sorted leb (map (λ r. nat_abs r.number) l)) (inside_in e rs) ∙ ap (sorted leb) (map_push (λ (r : SiteRecord). nat_abs r.number) (inside q rs) s) ∙ sorted_push leb (map (λ r. nat_abs r.number) (inside q rs)) (nat_abs s.number)

  pub sites_in_out : is_inside q s ≡ false → (rs : List SiteRecord) → sites_in (rs ++ s ∷ []) q ≡ sites_in rs q
  sites_in_out e rs = ap (λ (l : List SiteRecord). sorted leb (map (λ r. nat_abs r.number) l)) (inside_out e rs)

module _ (q : Rectangle) (sites : List Site) (i : ℕ) (s : Site) (below : i < length sites) where
  looked : map raw_of (take (i + 1) sites) ≡ map raw_of (take i sites) ++ raw_of (get_or sites i s) ∷ []
  looked = map_more raw_of sites i s below

  pub one_more_in : (n : ℕ) → n ≡ (get_or sites i s).number.value → true ≡ is_inside q (raw_of (get_or sites i s)) → placed leb n (sites_in (map raw_of (take i sites)) q) ≡ sites_in (map raw_of (take (i + 1) sites)) q
  one_more_in n number e =
      ap (λ (m : ℕ). placed leb m (sites_in (map raw_of (take i sites)) q)) number ∙ sym (sites_in_in q (raw_of (get_or sites i s)) (sym e) (map raw_of (take i sites))) ∙ ap (λ (l : List SiteRecord). sites_in l q) (sym looked)

  pub one_more_out : false ≡ is_inside q (raw_of (get_or sites i s)) → sites_in (map raw_of (take i sites)) q ≡ sites_in (map raw_of (take (i + 1) sites)) q
  one_more_out e =
      sym (sites_in_out q (raw_of (get_or sites i s)) (sym e) (map raw_of (take i sites))) ∙ ap (λ (l : List SiteRecord). sites_in l q) (sym looked)
