-- Which raw records become edges.
use Rattle.std.proofs.Common.{◌≡◌, Bool, true, false, cond, ℤ, ◌<ℤ◌, Some, None, Option, sym, refl, ap, ◌∙◌, subst, arith, w64, SFits, to_z, of_z}
use lib.Signed.{lt_z}
use Rattle.std.specs.Option.{option_map}
use Rattle.std.proofs.lemmas.Int.{ints, to_z-of_z}
use Rattle.std.proofs.lemmas.Bool.{and_parts, and_from, cond-false, cond-true}
use Rattle.records.specs.Range.{is_coordinate, is_record_number, is_zone, kept_by}
use Rattle.records.specs.declared.raw.EdgeRecord.{EdgeRecord}
use Rattle.geometry.specs.declared.edge.Edge.{Edge}
use Rattle.geometry.specs.Edge.{is_edge}
use Rattle.geometry.specs.Held.{raw_of}

cases_false : (b : Bool) → (b ≡ true → ⊥) → b ≡ false
cases_false true h = absurd (h refl)
cases_false false h = refl

-- What a test that kept or dropped a value says of it.
Told : Bool → ℤ → Option ℤ → Type 0
Told b z None = b ≡ false
Told b z (Some v) = (b ≡ true) × (v ≡ z)

told : (b : Bool) (z : ℤ) → Told b z (cond b (Some z) None)
unfolding Told
told true z = (refl, refl)
told false z = refl

pub kept : (test : ℤ → Bool) (z v : ℤ) → SFits w64 z → Some v ≡ kept_by test (to_z w64 (of_z w64 z)) → (test z ≡ true) × (v ≡ z)
unfolding Told
kept test z v fits h = subst (Told (test z) z) (sym (h ∙ ap (kept_by test) (to_z-of_z w64 z fits))) (told (test z) z)

pub dropped : (test : ℤ → Bool) (z : ℤ) → SFits w64 z → None ≡ kept_by test (to_z w64 (of_z w64 z)) → test z ≡ false
unfolding Told
dropped test z fits h = subst (Told (test z) z) (sym (h ∙ ap (kept_by test) (to_z-of_z w64 z fits))) (told (test z) z)

-- The tests that an edge passes.
pub record Passed (raw : EdgeRecord) : Type 0 where
  pub number : is_record_number raw.number ≡ true
  pub x1 : is_coordinate raw.x1 ≡ true
  pub y1 : is_coordinate raw.y1 ≡ true
  pub x2 : is_coordinate raw.x2 ≡ true
  pub y2 : is_coordinate raw.y2 ≡ true
  pub zone : is_zone raw.zone ≡ true
  pub wide : lt_z raw.x1 raw.x2 ≡ true

pub passed : (raw : EdgeRecord) → is_edge raw ≡ true → Passed raw
passed raw h =
    let p6 = and_parts _ _ h in
    let p5 = and_parts _ _ p6.0 in
    let p4 = and_parts _ _ p5.0 in
    let p3 = and_parts _ _ p4.0 in
    let p2 = and_parts _ _ p3.0 in
    let p1 = and_parts _ _ p2.0 in
    record { number = p1.0; x1 = p1.1; y1 = p2.1; x2 = p3.1; y2 = p4.1; zone = p5.1; wide = p6.1 }

passes : (raw : EdgeRecord) → Passed raw → is_edge raw ≡ true
passes raw p =
    and_from _ _ (and_from _ _ (and_from _ _ (and_from _ _ (and_from _ _ (and_from _ _ p.number p.x1) p.y1) p.x2) p.y2) p.zone) p.wide

-- A record that fails a test becomes no edge.
pub refused : (raw : EdgeRecord) (r : Option Edge) → r ≡ None → (Passed raw → ⊥) → option_map raw_of r ≡ cond (is_edge raw) (Some raw) None
refused raw r none fails =
    ap (option_map raw_of) none ∙ sym (cond-false (is_edge raw) (Some raw) None (cases_false (is_edge raw) (λ h. fails (passed raw h))))

-- One that passes them all becomes the edge with its fields.
pub accepted : (raw read : EdgeRecord) → read ≡ raw → Passed raw → Some read ≡ cond (is_edge raw) (Some raw) None
accepted raw read same passes-all = ap Some same ∙ sym (cond-true (is_edge raw) (Some raw) None (passes raw passes-all))

pub below_test : (a b : ℤ) → a <ℤ b → lt_z a b ≡ true
below_test a b h = let t : true ≡ lt_z a b = omega (arith, ints) in sym t

pub same_record : {n x y u v z n' x' y' u' v' z' : ℤ} → n ≡ n' → x ≡ x' → y ≡ y' → u ≡ u' → v ≡ v' → z ≡ z' → ◌≡◌ {A = EdgeRecord} (record { number = n; x1 = x; y1 = y; x2 = u; y2 = v; zone = z }) (record { number = n'; x1 = x'; y1 = y'; x2 = u'; y2 = v'; zone = z' })
same_record en ex ey eu ev ez = cc
