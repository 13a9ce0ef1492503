-- Two tests one after the other: by the first, and where it ties by the rest.
use Rattle.std.specs.Prelude.{◌≡◌, Bool, true, false, not, ◌&&◌, ◌||◌, refl}
use Rattle.std.proofs.Common.{sym, ap, ◌∙◌}
use Rattle.std.proofs.lemmas.Bool.{true≢false}

-- From whether x is at most y by the first test, y at most x by it, and x at most y by the rest.
abbrev pub in_turn : Bool → Bool → Bool → Bool
in_turn there back rest = not back || there && back && rest

pub turn_total : (xy yx rest-xy rest-yx : Bool) → (rest-xy ≡ false → rest-yx ≡ true) → in_turn xy yx rest-xy ≡ false → in_turn yx xy rest-yx ≡ true
turn_total false yx rest-xy rest-yx total e = refl
turn_total true false rest-xy rest-yx total e = absurd (true≢false e)
turn_total true true rest-xy rest-yx total e = total e

turn_first : (there back rest : Bool) → (back ≡ false → there ≡ true) → in_turn there back rest ≡ true → there ≡ true
turn_first true back rest total e = refl
turn_first false false rest total e = total refl
turn_first false true rest total e = e

turn_tied : (there back rest : Bool) → back ≡ true → in_turn there back rest ≡ true → rest ≡ true
turn_tied true true rest b e = e
turn_tied true false rest b e = absurd (true≢false (sym b))
turn_tied false true rest b e = absurd (true≢false (sym e))
turn_tied false false rest b e = absurd (true≢false (sym b))

-- What the first test says of three elements.
pub record Three (xy yx yz zy xz zx : Bool) : Type 0 where
  pub xy_total : yx ≡ false → xy ≡ true
  pub yz_total : zy ≡ false → yz ≡ true
  pub onward : xy ≡ true → yz ≡ true → xz ≡ true
  pub tied_yx : yz ≡ true → zx ≡ true → yx ≡ true
  pub tied_zy : zx ≡ true → xy ≡ true → zy ≡ true

both : (there back rest : Bool) → there ≡ true → back ≡ true → rest ≡ true → in_turn there back rest ≡ true
both there back rest p q r = ap (λ (t : Bool). in_turn t back rest) p ∙ ap (λ (t : Bool). in_turn true t rest) q ∙ r

pub turn_transitive : (xy yx yz zy xz zx rest-xy rest-yz rest-xz : Bool) → Three xy yx yz zy xz zx → (rest-xy ≡ true → rest-yz ≡ true → rest-xz ≡ true) → in_turn xy yx rest-xy ≡ true → in_turn yz zy rest-yz ≡ true → in_turn xz zx rest-xz ≡ true
turn_transitive xy yx yz zy xz false rest-xy rest-yz rest-xz t rest p q = refl
turn_transitive xy yx yz zy xz true rest-xy rest-yz rest-xz t rest p q =
    let there = turn_first xy yx rest-xy t.xy_total p in
    let on = turn_first yz zy rest-yz t.yz_total q in
    both xz true rest-xz (t.onward there on) refl
    (rest (turn_tied xy yx rest-xy (t.tied_yx on refl) p) (turn_tied yz zy rest-yz (t.tied_zy refl there) q))

-- Each at most the other ties by the rest too.
pub turn_ties : (xy yx rest-xy rest-yx : Bool) → (yx ≡ false → xy ≡ true) → (xy ≡ false → yx ≡ true) → in_turn xy yx rest-xy ≡ true → in_turn yx xy rest-yx ≡ true → (rest-xy ≡ true) × (rest-yx ≡ true)
turn_ties xy yx rest-xy rest-yx there back p q =
    (turn_tied xy yx rest-xy (turn_first yx xy rest-yx back q) p, turn_tied yx xy rest-yx (turn_first xy yx rest-xy there p) q)
