-- What the rest of a proof begins with.
use Rattle.std.proofs.Common.{◌≡◌, ℕ, ◌-◌, Bool, true, false, List, length, take, drop, sym, refl, ap, ◌∙◌, arith}
use Rattle.std.specs.Str.{bytes_eq}
use Rattle.std.proofs.lemmas.List.{length-drop, take_all}
use Rattle.std.proofs.lemmas.Slice.Eq.{bytes_eq-Decides}
use Rattle.calls.specs.Comparing.{goes_on_with}
use Rattle.mirror.specs.Positions.{position_at}

alike : (a b : List ℕ) → bytes_eq a b ≡ bytes_eq b a
alike a b = go (bytes_eq a b) (bytes_eq b a) refl refl
  where
    go : (x y : Bool) → bytes_eq a b ≡ x → bytes_eq b a ≡ y → x ≡ y
    go true true e f = refl
    go false false e f = refl
    go true false e f = sym (sym f ∙ ap (λ c. bytes_eq c a) (sym ((bytes_eq-Decides a b).0 e)) ∙ (bytes_eq-Decides a a).1 refl)
    go false true e f = sym e ∙ ap (λ c. bytes_eq a c) ((bytes_eq-Decides b a).0 f) ∙ (bytes_eq-Decides a a).1 refl

-- the rest of a proof begins with a string
pub begins_with : (proof string : List ℕ) (at : ℕ) → bytes_eq string (take (length string) (take (length proof - at) (drop at proof))) ≡ goes_on_with (position_at proof at) string
begins_with proof string at =
    ap (λ rest. bytes_eq string (take (length string) rest)) (take_all (length proof - at) (drop at proof) (omega (arith, length-drop at proof)))
    ∙ alike string (take (length string) (drop at proof))
