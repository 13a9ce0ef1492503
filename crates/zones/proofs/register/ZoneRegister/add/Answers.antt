use Rattle.std.proofs.Common.{◌≡◌, nat_le, ℕ, ◌<◌, ◌≤◌, Bool, true, false, not, map, length, is_some, Some, Option, sym, refl, ap, ◌∙◌, arith, w64, to_z, of_z, SFits, rules}
use Rattle.std.proofs.lemmas.Bool.{cond-true}
use Rattle.std.proofs.lemmas.List.{length-map}
use Rattle.refusal.specs.declared.Refusal.TheVariants.{FieldOutOfRange}
use Rattle.records.specs.declared.raw.EdgeRecord.{EdgeRecord}
use Rattle.records.specs.Held.{holds, place_from, put_in}
use Rattle.records.proofs.Kept.{chosen, not_chosen}
use Rattle.records.proofs.Held.{held_found, put_in_lem}
use Rattle.slices.specs.Runs.{elements}
use Rattle.slices.proofs.Runs.{inserted_with_room, never_full}
use Rattle.records.proofs.Numbers.{from_bits}
use Rattle.records.proofs.Outcome.{outcome}
use Rattle.geometry.specs.Edge.{is_edge}
use Rattle.geometry.specs.Held.{raw_of}
use Rattle.zones.specs.Edges.{number_of, add_refusal, conflicts_with_any}
use Rattle.zones.specs.Register.{held}
use Rattle.zones.specs.declared.register.ZoneRegister.{ZoneRegister}
use Rattle.zones.proofs.Adding.{number_held, register_full, in_conflict, not_refused}
use Rattle.zones.proofs.register.ZoneRegister.add.Goals as goal

-- the record's number is looked for among those held
abbrev found : ZoneRegister → EdgeRecord → Option ℕ
found r from = place_from 0 (λ e. number_of (raw_of e)) from.number (elements r.edges)

free_or_held : (r : ZoneRegister) (from : EdgeRecord) (o : Option ℕ) (b : Bool) → o ≡ found r from → b ≡ is_some o → holds number_of from.number (held r) ≡ b
free_or_held r from o b place answer =
    held_found raw_of number_of from.number (elements r.edges) ∙ ap is_some (sym place) ∙ sym answer

pub returns-in_default : goal.returns-in_default
returns-in_default c =
    let r = c.args.self.now in
    let from = c.args.from in
    let refused : add_refusal (held r) from ≡ Some FieldOutOfRange = cond-true (not (is_edge from)) _ _ (ap not (not_chosen (is_edge from) from c.in_default.ensures)) in
    let both = outcome (add_refusal (held r) from) _ (tt {0}) (held r) (put_in number_of from (held r)) (held r) refused refl in
    record { answer = both.answer; after = both.left }

pub returns-then-is_some : goal.returns-then-is_some
returns-then-is_some c =
    let r = c.args.self.now in
    let from = c.args.from in
    let number : SFits w64 from.number = search rules in
    let edge-is = chosen (is_edge from) _ from c.in-Some.ensures in
    let place = from_bits w64 (λ n. place_from 0 (λ e. number_of (raw_of e)) n (elements r.edges)) _ from.number number (c.place_of.ensures ∙ ap (place_from 0 (λ e. number_of (raw_of e)) (to_z w64 (of_z w64 from.number))) c.as_slice.ensures.elements) in
    let refused = number_held (held r) from edge-is.0 (free_or_held r from _ true place c.if-is_some.ensures) in
    let both = outcome (add_refusal (held r) from) _ (tt {0}) (held r) (put_in number_of from (held r)) (held r) refused refl in
    record { answer = both.answer; after = both.left }

pub returns-then-len-ge-ROOM : goal.returns-then-len-ge-ROOM
returns-then-len-ge-ROOM c =
    let r = c.args.self.now in
    let from = c.args.from in
    let number : SFits w64 from.number = search rules in
    let edge-is = chosen (is_edge from) _ from c.in-Some.ensures in
    let place = from_bits w64 (λ n. place_from 0 (λ e. number_of (raw_of e)) n (elements r.edges)) _ from.number number (c.place_of.ensures ∙ ap (place_from 0 (λ e. number_of (raw_of e)) (to_z w64 (of_z w64 from.number))) c.as_slice.ensures.elements) in
    let free = free_or_held r from _ false place c.if-is_some.ensures in
    let full : 64 ≤ length (held r) = omega (arith, c.if-len-ge-ROOM.true, c.len.ensures) in
    let both = outcome (add_refusal (held r) from) _ (tt {0}) (held r) (put_in number_of from (held r)) (held r) (register_full (held r) from edge-is.0 free full) refl in
    record { answer = both.answer; after = both.left }

pub returns-then-has_conflict : goal.returns-then-has_conflict
returns-then-has_conflict c =
    let r = c.args.self.now in
    let from = c.args.from in
    let number : SFits w64 from.number = search rules in
    let edge-is = chosen (is_edge from) _ from c.in-Some.ensures in
    let place = from_bits w64 (λ n. place_from 0 (λ e. number_of (raw_of e)) n (elements r.edges)) _ from.number number (c.place_of.ensures ∙ ap (place_from 0 (λ e. number_of (raw_of e)) (to_z w64 (of_z w64 from.number))) c.as_slice.ensures.elements) in
    let free = free_or_held r from _ false place c.if-is_some.ensures in
    let room : length (held r) < 64 = omega (arith, c.if-len-ge-ROOM.false, c.len.ensures) in
    let crosses : conflicts_with_any from (held r) ≡ true = ap (λ (e : EdgeRecord). conflicts_with_any e (held r)) (sym edge-is.1) ∙ sym c.if-has_conflict.ensures in
    let both = outcome (add_refusal (held r) from) _ (tt {0}) (held r) (put_in number_of from (held r)) (held r) (in_conflict (held r) from edge-is.0 free room crosses) refl in
    record { answer = both.answer; after = both.left }

pub returns : goal.returns
returns c =
    let r = c.args.self.now in
    let from = c.args.from in
    let number : SFits w64 from.number = search rules in
    let edge-is = chosen (is_edge from) _ from c.in-Some.ensures in
    let place = from_bits w64 (λ n. place_from 0 (λ e. number_of (raw_of e)) n (elements r.edges)) _ from.number number (c.place_of.ensures ∙ ap (place_from 0 (λ e. number_of (raw_of e)) (to_z w64 (of_z w64 from.number))) c.as_slice.ensures.elements) in
    let free = free_or_held r from _ false place c.if-is_some.ensures in
    let room : length (held r) < 64 = omega (arith, c.if-len-ge-ROOM.false, c.len.ensures) in
    let clear : conflicts_with_any from (held r) ≡ false = ap (λ (e : EdgeRecord). conflicts_with_any e (held r)) (sym edge-is.1) ∙ sym c.if-has_conflict.ensures in
    let accepted = not_refused (held r) from edge-is.0 free room clear in
    let few : length (elements r.edges) < 64 = omega (arith, room, length-map (elements r.edges) raw_of) in
    let after : map raw_of (elements c.insert.new.self) ≡ put_in number_of from (held r) =
    ap (map raw_of) (c.in-Ok.ensures.after ∙ inserted_with_room 64 (elements r.edges) few (λ e f. nat_le e.number.value f.number.value) c.in-Some.edge) ∙ put_in_lem raw_of number_of _ (λ s t. refl) c.in-Some.edge (elements r.edges) ∙ ap (λ (x : EdgeRecord). put_in number_of x (held r)) edge-is.1
    in
    let both = outcome (add_refusal (held r) from) _ (tt {0}) _ (put_in number_of from (held r)) (held r) accepted after in
    record { answer = both.answer; after = both.left }

pub unreachable-requires : goal.unreachable-requires
unreachable-requires c =
    let r = c.args.self.now in
    let few : length (elements r.edges) < 64 = omega (arith, c.if-len-ge-ROOM.false, c.len.ensures, length-map (elements r.edges) raw_of) in
    never_full 64 (elements r.edges) few c.in-Err.field-0 c.in-Err.ensures.answer
