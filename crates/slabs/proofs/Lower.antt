-- An edge that is not higher than one under a point is under the point too.
-- Assumes nothing.
use Rattle.std.proofs.Common.{◌≡◌, true, false, [], ◌∷◌, ℤ, pos, ◌≤ℤ◌, ◌<ℤ◌, sym, refl, ⊎_elim}
use Rattle.std.proofs.lemmas.Bool.{and_parts, and_from}
use Rattle.algebra.specs.Expressions.{unknown, number, ◌⊖◌, ◌⊗◌}
use Rattle.algebra.specs.Certificates.{◌≼◌, ◌≺◌, given, ◌⊞◌, ◌⊠◌}
use Rattle.algebra.proofs.Order.{<ℤ→≤ℤ, ≡→≤ℤ, <ℤ→0<, int_le→≤ℤ, ≤ℤ→int_le}
use Rattle.algebra.proofs.Sign.{shows_over}
use Rattle.records.specs.declared.raw.EdgeRecord.{EdgeRecord}
use Rattle.geometry.specs.Fraction.{Ratio, whole, difference, at_most}
use Rattle.geometry.specs.Edge.{covers, height, lies_under}
use Rattle.slabs.specs.Topmost.{is_under, Wide}
use Rattle.slabs.proofs.Order.{cross, not_under→at_least}

at_most_whole : (p q : Ratio) (y : ℤ) → pos 0 <ℤ p.under → pos 0 <ℤ q.under → pos 0 ≤ℤ difference p q → cross p (whole y) ≤ℤ cross (whole y) p → cross q (whole y) ≤ℤ cross (whole y) q
at_most_whole p q y u v d h =
    let po = unknown 0 in
    let pu = unknown 1 in
    let qo = unknown 2 in
    let qu = unknown 3 in
    let yo = unknown 4 in
    let none = number (pos 0) in
    let one = number (pos 1) in
    shows_over (p.over ∷ p.under ∷ q.over ∷ q.under ∷ y ∷ []) ((none ≺ pu) ∷ (none ≺ qu) ∷ (none ≼ po ⊗ qu ⊖ qo ⊗ pu) ∷ (po ⊗ one ≼ yo ⊗ pu) ∷ [])
    (qo ⊗ one ≼ yo ⊗ qu) (given 0) (given 1 ⊠ given 3 ⊞ given 2) (u, (v, (d, (h, tt)))) refl

pub lower_is_under : (px py : ℤ) (e f : EdgeRecord) → Wide e → Wide f → covers f px ≡ true → lies_under px e f ≡ false → is_under px py e ≡ true → is_under px py f ≡ true
lower_is_under px py e f we wf c n t = and_from (covers f px) (at_most (height f px) (whole py)) c
    (≤ℤ→int_le (at_most_whole (height e px) (height f px) py (<ℤ→0< we) (<ℤ→0< wf) (⊎_elim <ℤ→≤ℤ (λ h. ≡→≤ℤ (sym h.0)) (not_under→at_least px e f n))
    (int_le→≤ℤ {a = cross (height e px) (whole py)} {b = cross (whole py) (height e px)} (and_parts (covers e px) (at_most (height e px) (whole py)) t).1)))
