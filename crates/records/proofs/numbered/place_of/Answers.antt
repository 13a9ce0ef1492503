use Rattle.std.proofs.Common.{rules, ◌≡◌, ℤ, cond, nat_lt, length, Some, None, subst, w64, to_z, of_z}
use Rattle.std.proofs.lemmas.Int.{to_z-of_z}
use Rattle.std.proofs.lemmas.Iterator.{YieldsList-from_slice}
use Rattle.std.proofs.lemmas.Iterator.Search.{position_from_yields_List}
use borrow.Author.Tests.{tests}
use Rattle.std.specs.List.{position_or_len}
use Rattle.records.specs.Held.{same_number}
use Rattle.records.proofs.Places.{place_found}
use Rattle.records.proofs.numbered.place_of.Goals as goal

pub returns : goal.returns
returns g c =
    let number_of = g.T.Numbered.number_of in
    let n = c.args.number in
    let rs = c.args.records.now in
    let found = position_from_yields_List (λ r. same_number (number_of r) (to_z w64 (of_z w64 n))) _ _ c.position.result c.position.ensures.ran (YieldsList-from_slice rs c.iter.ensures.rest) (λ r b q k. search (rules, tests)) in
    place_found number_of n rs c.position.result (subst (λ (m : ℤ). c.position.result ≡ cond (nat_lt (position_or_len (λ r. same_number (number_of r) m) rs) (length rs)) (Some (position_or_len (λ r. same_number (number_of r) m) rs)) None) (to_z-of_z w64 n c.ranges.number) found)
