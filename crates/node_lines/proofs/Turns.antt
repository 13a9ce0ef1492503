-- The lines of strings, one string after another.
use Rattle.std.proofs.Common.{◌≡◌, ℕ, zero, suc, ◌+◌, ◌-◌, ◌<◌, ◌≤◌, Bool, true, cond, ltb, List, [], ◌++◌, length, is_err, Some, None, Ok, Err, Option, Result, sym, refl, ap, ◌∙◌, arith}
use Rattle.std.proofs.lemmas.Bool.Decides.{nat_tests}
use Rattle.std.proofs.lemmas.Bool.{cond-true, lt-ltb}
use Rattle.node.specs.Kinds.{kind_numbered, shape_of}
use Rattle.node.specs.declared.kind.Kind.{Kind}
use Rattle.reader.specs.Reading.{Position, bytes_left, finished, read_kind, read_string}
use Rattle.reader.specs.Views.{StringSeen}
use Rattle.reader.specs.declared.fault.ReaderFault.{ReaderFault}
use Rattle.reader.proofs.Outcomes.{read_shortens}
use Rattle.script.specs.Lines.{ended}
use Rattle.node_lines.specs.declared.next_string.StringFault.{StringFault}
use Rattle.node_lines.specs.NextString.{after_kind, next_string, of_kind, or_cut_short, place_after}
use Rattle.node_lines.specs.StringLines.{AllStringsHaveLines, all_string_lines, line_and_later, line_of_fault, line_of_string, string_lines}

-- After a string at least four bytes fewer are left.
module _ (p : Position) (seen : StringSeen) where
  abbrev Shorter : Type 0
  Shorter = length p.bytes - seen.ends + 4 ≤ bytes_left p

  rest_shorter : (kind : Kind) (r : Result StringSeen ReaderFault) → read_string p (shape_of kind) ≡ r → or_cut_short r ≡ Ok seen → Shorter
  rest_shorter kind (Ok s) read e = read_shortens p (shape_of kind) seen (cc)
  rest_shorter kind (Err f) read e = cc

  kind_shorter : (number : ℕ) (o : Option Kind) → of_kind p number o ≡ Ok seen → Shorter
  kind_shorter number None e = cc
  kind_shorter number (Some kind) e = rest_shorter kind (read_string p (shape_of kind)) refl e

  next_shorter : (r : Result ℕ ReaderFault) → after_kind p r ≡ Ok seen → Shorter
  next_shorter (Ok number) e = kind_shorter number (kind_numbered number) e
  next_shorter (Err f) e = cc

pub shortens : (p : Position) (seen : StringSeen) → next_string p ≡ Ok seen → length p.bytes - seen.ends + 4 ≤ bytes_left p
shortens p seen e = next_shorter p seen (read_kind p) e

abbrev moved_to : Position → ℕ → Position
moved_to p place = record { bytes = p.bytes; at = place }

abbrev step : ℕ → Position → List ℕ
step most p = line_and_later p.at (next_string p) (λ place. string_lines most (moved_to p place))

nothing_left : (most : ℕ) (p : Position) → bytes_left p ≤ 0 → string_lines (suc most) p ≡ []
nothing_left most p none = grind (arith, nat_tests)

same_step : (m n : ℕ) (p : Position) (r : Result StringSeen StringFault) → ((seen : StringSeen) → r ≡ Ok seen → string_lines m (moved_to p seen.ends) ≡ string_lines n (moved_to p seen.ends)) → line_and_later p.at r (λ place. string_lines m (moved_to p place)) ≡ line_and_later p.at r (λ place. string_lines n (moved_to p place))
same_step m n p (Ok seen) later = ap (λ ls. ended (line_of_string seen) ++ ls) (later seen refl)
same_step m n p (Err fault) later = refl

as_many : (m n : ℕ) (p : Position) → bytes_left p ≤ m → bytes_left p ≤ n → string_lines m p ≡ string_lines n p
as_many zero zero p hm hn = refl
as_many zero (suc n) p hm hn = sym (nothing_left n p hm)
as_many (suc m) zero p hm hn = nothing_left m p hn
as_many (suc m) (suc n) p hm hn =
    ap (λ ls. cond (ltb 0 (bytes_left p)) ls [])
    (same_step m n p (next_string p) (λ seen e. let fewer = shortens p seen e in as_many m n (moved_to p seen.ends) (omega arith) (omega arith)))

pub all_strings_have_lines_lem : AllStringsHaveLines
all_strings_have_lines_lem most p enough = as_many most (bytes_left p) p enough (omega arith)

-- what the loop does at a place where bytes are left
one_more : (p : Position) → 0 < bytes_left p → all_string_lines p ≡ step (bytes_left p) p
one_more p some =
    sym (all_strings_have_lines_lem (suc (bytes_left p)) p (omega arith))
    ∙ cond-true (ltb 0 (bytes_left p)) (step (bytes_left p) p) [] (lt-ltb 0 (bytes_left p) some)

pub lines_fault : (p : Position) (fault : StringFault) → 0 < bytes_left p → Err fault ≡ next_string p → all_string_lines p ≡ ended (line_of_fault p.at fault)
lines_fault p fault some e =
    one_more p some ∙ ap (λ r. line_and_later p.at r (λ place. string_lines (bytes_left p) (moved_to p place))) (sym e)

pub lines_step : (p q : Position) (seen : StringSeen) → 0 < bytes_left p → Ok seen ≡ next_string p → q.bytes ≡ p.bytes → q.at ≡ seen.ends → all_string_lines p ≡ ended (line_of_string seen) ++ all_string_lines q
lines_step p q seen some e same moved =
    let fewer = shortens p seen (sym e) in
    let there : moved_to p seen.ends ≡ q = ap (λ bytes. record { bytes = bytes; at = seen.ends }) (sym same) ∙ ap (λ place. record { bytes = q.bytes; at = place }) (sym moved) in
    one_more p some
    ∙ (ap (λ r. line_and_later p.at r (λ place. string_lines (bytes_left p) (moved_to p place))) (sym e)
    ∙ (ap (λ ls. ended (line_of_string seen) ++ ls) (all_strings_have_lines_lem (bytes_left p) (moved_to p seen.ends) (omega arith))
    ∙ ap (λ place. ended (line_of_string seen) ++ all_string_lines place) there))

-- whether bytes are left, as the reader says it
module _ (p : Position) (f : Result (Unit {0}) ReaderFault) (b : Bool) (said : f ≡ finished p) (is : b ≡ is_err f) where
  pub some_left : b ≡ true → 0 < bytes_left p
  some_left t = grind (arith, nat_tests)

-- where the reader is after a string
pub place_after_lem : (p : Position) (seen : StringSeen) (at : ℕ) → Ok seen ≡ next_string p → at ≡ place_after p (next_string p) → at ≡ seen.ends
place_after_lem p seen at e h = h ∙ ap (place_after p) (sym e)
