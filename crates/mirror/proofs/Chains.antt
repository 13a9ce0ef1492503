-- Results whose answer is seen in another way.
use Rattle.std.proofs.Common.{◌≡◌, Ok, Err, Result, sym, refl, ap}
use Rattle.reader.specs.Reading.{map_ok}
use Rattle.calls.proofs.Chains.{not_ok}

err_same : {X E : Type 0} (d e : E) → ◌≡◌ {A = Result X E} (Err d) (Err e) → d ≡ e
err_same d e h = cc

-- a refusal is the same refusal
pub mapped_err : {X Y E : Type 0} (f : X → Y) (m : Result X E) (e : E) → Err e ≡ map_ok f m → m ≡ Err e
mapped_err f (Ok x) e h = absurd (not_ok e (f x) h)
mapped_err {Y = Y} f (Err d) e h = ap Err (err_same {X = Y} d e (sym h))

pub mapped_twice : {X Y Z E : Type 0} (f : X → Y) (g : Y → Z) (m : Result X E) → map_ok g (map_ok f m) ≡ map_ok (λ x. g (f x)) m
mapped_twice f g (Ok x) = refl
mapped_twice f g (Err e) = refl
