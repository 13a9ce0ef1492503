-- A chain of tests, taken apart: what was found at each test of one that ended well.
use Rattle.std.proofs.Common.{◌≡◌, ℕ, Bool, true, false, Some, None, Ok, Err, Option, Result, sym, refl, ap, arith}
use Rattle.reader.specs.Reading.{map_ok, onward}
use Rattle.fault.specs.Carrying.{carried}
use Rattle.calls.specs.Chain.{guard, found, choose}

pub not_ok : {X E : Type 0} (e : E) (x : X) → ◌≡◌ {A = Result X E} (Err e) (Ok x) → ⊥
not_ok e x h = let z : ◌≡◌ {A = ℕ} 0 1 = cc in omega arith

pub ok_same : {X E : Type 0} (x y : X) → ◌≡◌ {A = Result X E} (Ok x) (Ok y) → x ≡ y
ok_same x y h = cc

pub onward_ok : {X Y E : Type 0} (m : Result X E) (f : X → Result Y E) (y : Y) → onward m f ≡ Ok y → (x : X) × (m ≡ Ok x) × (f x ≡ Ok y)
onward_ok (Ok x) f y h = (x, refl, h)
onward_ok (Err e) f y h = absurd (not_ok e y h)

pub carried_ok : {X Y E F : Type 0} (turn : E → F) (m : Result X E) (f : X → Result Y F) (y : Y) → carried turn m f ≡ Ok y → (x : X) × (m ≡ Ok x) × (f x ≡ Ok y)
carried_ok turn (Ok x) f y h = (x, refl, h)
carried_ok turn (Err e) f y h = absurd (not_ok (turn e) y h)

pub map_ok_ok : {X Y E : Type 0} (f : X → Y) (m : Result X E) (y : Y) → map_ok f m ≡ Ok y → (x : X) × (m ≡ Ok x) × (y ≡ f x)
map_ok_ok {E} f (Ok x) y h = (x, refl, sym (ok_same {E = E} (f x) y h))
map_ok_ok f (Err e) y h = absurd (not_ok e y h)

pub guard_ok : {E : Type 0} (b : Bool) (e : E) (u : Unit {0}) → guard b e ≡ Ok u → b ≡ true
guard_ok true e u h = refl
guard_ok false e u h = absurd (not_ok e u h)

pub found_ok : {X E : Type 0} (o : Option X) (e : E) (x : X) → found o e ≡ Ok x → o ≡ Some x
found_ok {E} (Some y) e x h = ap Some (ok_same {E = E} y x h)
found_ok None e x h = absurd (not_ok e x h)

-- and put together
pub onward_at : {X Y E : Type 0} (m : Result X E) (x : X) (f : X → Result Y E) → m ≡ Ok x → onward m f ≡ f x
onward_at m x f h = ap (λ (t : Result _ _). onward t f) h

pub carried_at : {X Y E F : Type 0} (turn : E → F) (m : Result X E) (x : X) (f : X → Result Y F) → m ≡ Ok x → carried turn m f ≡ f x
carried_at turn m x f h = ap (λ (t : Result _ _). carried turn t f) h

pub guard_at : {E : Type 0} (b : Bool) (e : E) → b ≡ true → guard b e ≡ Ok tt
guard_at b e h = ap (λ (t : Bool). guard t e) h

pub found_at : {X E : Type 0} (o : Option X) (e : E) (x : X) → o ≡ Some x → found o e ≡ Ok x
found_at o e x h = ap (λ (t : Option _). found t e) h

pub choose_yes : {X : Type 0} (b : Bool) (f g : Unit {0} → X) → b ≡ true → choose b f g ≡ f tt
choose_yes b f g h = ap (λ (t : Bool). choose t f g) h

pub choose_no : {X : Type 0} (b : Bool) (f g : Unit {0} → X) → b ≡ false → choose b f g ≡ g tt
choose_no b f g h = ap (λ (t : Bool). choose t f g) h

-- Chains that go on alike wherever their first test passes are alike.
pub onward_alike : {X Y E : Type 0} (m : Result X E) (f g : X → Result Y E) → ((x : X) → m ≡ Ok x → f x ≡ g x) → onward m f ≡ onward m g
onward_alike (Ok x) f g h = h x refl
onward_alike (Err e) f g h = refl

pub choose_alike : {X : Type 0} (b : Bool) (f f' g : Unit {0} → X) → (b ≡ true → f tt ≡ f' tt) → choose b f g ≡ choose b f' g
choose_alike true f f' g h = h refl
choose_alike false f f' g h = refl
