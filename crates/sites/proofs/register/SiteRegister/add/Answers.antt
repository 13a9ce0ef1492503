use Rattle.std.proofs.Common.{⊎_elim, None, Some, cond, nat_lt, nat_le, Ok, Err, Result, ◌≡◌, ℕ, ◌<◌, ◌≤◌, Bool, true, false, List, map, length, is_some, Option, sym, refl, ap, ◌∙◌, arith, w64, to_z, of_z, SFits, rules}
use Rattle.records.specs.Held.{holds, place_from, put_in}
use Rattle.records.proofs.Outcome.{outcome}
use Rattle.records.proofs.Kept.{chosen}
use Rattle.records.proofs.Held.{held_found, put_in_lem}
use Rattle.records.proofs.Numbers.{from_bits}
use Rattle.slices.specs.Runs.{elements}
use Rattle.sites.specs.Site.{raw_of, number_of, is_site, add_refusal}
use Rattle.sites.specs.Register.{held}
use Rattle.sites.specs.declared.register.SiteRegister.{SiteRegister}
use Rattle.records.specs.declared.raw.SiteRecord.{SiteRecord}
use Rattle.std.proofs.lemmas.List.{length-map}
use Rattle.refusal.specs.declared.Refusal.{Refusal}
use Rattle.refusal.specs.declared.Refusal.TheVariants.{RegisterFull}
use Rattle.sites.specs.declared.site.Site.{Site}
use Rattle.std.proofs.lemmas.Bool.{cases_lt, cond-true, cond-false, lt-ltb, le-ltb}
use Rattle.slices.proofs.Runs.{inserted_with_room, inserted_without_room}
use Rattle.slices.specs.Order.{placed}
use Rattle.slices.specs.Runs.{room_answer}
use Rattle.sites.proofs.Adding.{number_held, register_full, not_refused}
use Rattle.sites.proofs.register.SiteRegister.add.Goals as goal

-- the record's number is looked for among those held
abbrev found : SiteRegister → SiteRecord → Option ℕ
found r from = place_from 0 (λ s. number_of (raw_of s)) from.number (elements r.sites)

free_or_held : (r : SiteRegister) (from : SiteRecord) (o : Option ℕ) (b : Bool) → o ≡ found r from → b ≡ is_some o → holds number_of from.number (held r) ≡ b
free_or_held r from o b place answer =
    held_found raw_of number_of from.number (elements r.sites) ∙ ap is_some (sym place) ∙ sym answer

abbrev by_number_value : Site → Site → Bool
by_number_value s t = nat_le s.number.value t.number.value

abbrev full_told : List Site → Result (Unit {0}) Refusal
full_told sites = cond (nat_lt (length sites) 128) (Ok (tt {0})) (Err RegisterFull)

pub returns-then-is_some : goal.returns-then-is_some
returns-then-is_some c =
    let r = c.args.self.now in
    let from = c.args.from in
    let number : SFits w64 from.number = search rules in
    let site-is = chosen (is_site from) _ from c.in-Some.ensures in
    let place = from_bits w64 (λ n. place_from 0 (λ s. number_of (raw_of s)) n (elements r.sites)) _ from.number number (c.place_of.ensures ∙ ap (place_from 0 (λ s. number_of (raw_of s)) (to_z w64 (of_z w64 from.number))) c.as_slice.ensures.elements) in
    let refused = number_held (held r) from site-is.0 (free_or_held r from _ true place c.if-is_some.ensures) in
    let both = outcome (add_refusal (held r) from) _ (tt {0}) (held r) (put_in number_of from (held r)) (held r) refused refl in
    record { answer = both.answer; after = both.left }

pub returns : goal.returns
returns c =
    let r = c.args.self.now in
    let from = c.args.from in
    let number : SFits w64 from.number = search rules in
    let site-is = chosen (is_site from) _ from c.in-Some.ensures in
    let place = from_bits w64 (λ n. place_from 0 (λ s. number_of (raw_of s)) n (elements r.sites)) _ from.number number (c.place_of.ensures ∙ ap (place_from 0 (λ s. number_of (raw_of s)) (to_z w64 (of_z w64 from.number))) c.as_slice.ensures.elements) in
    let free = free_or_held r from _ false place c.if-is_some.ensures in
    let sites = elements r.sites in
    let told : c.map_err.result ≡ full_told sites = search (rules, room_answer) in
    let many = length-map sites raw_of in
    let placed-all : map raw_of (placed by_number_value c.in-Some.site sites) ≡ put_in number_of from (held r) = put_in_lem raw_of number_of by_number_value (λ s t. refl) c.in-Some.site sites ∙ ap (λ (x : SiteRecord). put_in number_of x (held r)) site-is.1 in
    let refusal = add_refusal (held r) from in
    ⊎_elim
    (λ (room : length sites < 128).
    let after : map raw_of (elements c.insert.new.self) ≡ put_in number_of from (held r) = ap (map raw_of) (c.insert.ensures.after ∙ inserted_with_room 128 sites room by_number_value c.in-Some.site) ∙ placed-all in
    let both = outcome refusal None (tt {0}) _ (put_in number_of from (held r)) (held r) (not_refused (held r) from site-is.0 free (omega (arith, room, many))) after in
    record { answer = told ∙ cond-true _ (Ok (tt {0})) (Err RegisterFull) (lt-ltb (length sites) 128 room) ∙ both.answer; after = both.left })
    (λ (full : 128 ≤ length sites).
    let same : map raw_of (elements c.insert.new.self) ≡ held r = ap (map raw_of) (c.insert.ensures.after ∙ inserted_without_room 128 sites full by_number_value c.in-Some.site) in
    let both = outcome refusal (Some RegisterFull) (tt {0}) _ (put_in number_of from (held r)) (held r) (register_full (held r) from site-is.0 free (omega (arith, full, many))) same in
    record { answer = told ∙ cond-false _ (Ok (tt {0})) (Err RegisterFull) (le-ltb (length sites) 128 full) ∙ both.answer; after = both.left })
    (cases_lt (length sites) 128)
