-- Making a rose only adds nodes, and leaves the rose standing at the place answered.
use Rattle.std.proofs.Common.{◌≡◌, ℕ, suc, ◌+◌, ◌<◌, ◌≤◌, Bool, true, false, eqb, ◌⊎◌, List, [], ◌∷◌, ◌++◌, length, ℤ, Some, None, Option, sym, refl, ap, ◌∙◌, subst, inl, inr, ⊎_elim, append_assoc, arith, length-append}
use Rattle.std.specs.List.{slice_get, AllByRecursion}
use Rattle.std.proofs.lemmas.Bool.{cases_Bool, cases_lt, cond-true, cond-false, and_parts}
use Rattle.std.proofs.lemmas.List.{append-nil}
use Rattle.std.proofs.lemmas.Int.{ints}
use Rattle.records.specs.Held.{same_number}
use Rattle.search.specs.Node.{Node}
use Rattle.search.specs.Rose.{Rose, Roses, grown, end, more, how_many}
use Rattle.search.specs.Making.{agree, alike, alike_from, place_of_alike, Made, MadeEach, found_or_next, made_node, made, made_each, Stands, StandEach}
use Rattle.search.proofs.Places.{not_both, some_same, nth_before, nth_end, nth_bound}

abbrev pub node : ℕ → List ℤ → List ℕ → Node
node kind numbers successors = record { kind = kind; numbers = numbers; successors = successors }

pub node_parts : (k l : ℕ) (zs ws : List ℤ) (ps qs : List ℕ) → node k zs ps ≡ node l ws qs → (k ≡ l) × (zs ≡ ws) × (ps ≡ qs)
node_parts k l zs ws ps qs h = (ap (λ (n : Node). n.kind) h, ap (λ (n : Node). n.numbers) h, ap (λ (n : Node). n.successors) h)

-- alike nodes are equal
pub agree_same : {X : Type 0} (same : X → X → Bool) → ((x y : X) → same x y ≡ true → x ≡ y) → (xs ys : List X) → agree same xs ys ≡ true → xs ≡ ys
agree_same same exact [] [] h = refl
agree_same same exact [] (y ∷ ys) h = absurd (false_is_not_true h)
  where
    false_is_not_true : false ≡ true → ⊥
    false_is_not_true e = let z : ◌≡◌ {A = ℕ} 0 1 = cc in omega arith
agree_same same exact (x ∷ xs) [] h = absurd (false_is_not_true h)
  where
    false_is_not_true : false ≡ true → ⊥
    false_is_not_true e = let z : ◌≡◌ {A = ℕ} 0 1 = cc in omega arith
agree_same same exact (x ∷ xs) (y ∷ ys) h =
    let parts = and_parts (same x y) (agree same xs ys) h in
    let first = exact x y parts.0 in
    let rest = agree_same same exact xs ys parts.1 in
    λ i. first i ∷ rest i

pub eqb_same : (a b : ℕ) → eqb a b ≡ true → a ≡ b
eqb_same a b h = grind (arith)

pub numbers_same : (a b : ℤ) → same_number a b ≡ true → a ≡ b
numbers_same a b h = grind (arith, ints)

pub alike_same : (a b : Node) → alike a b ≡ true → a ≡ b
alike_same a b h =
    let kinds = and_parts (eqb a.kind b.kind) _ h in
    let rest = and_parts (agree same_number a.numbers b.numbers) (agree eqb a.successors b.successors) kinds.1 in
    let k = eqb_same a.kind b.kind kinds.0 in
    let n = agree_same same_number numbers_same a.numbers b.numbers rest.0 in
    let s = agree_same eqb eqb_same a.successors b.successors rest.1 in
    λ i. record { kind = k i; numbers = n i; successors = s i }

alike_from_found : (start : ℕ) (sought : Node) (nodes : List Node) (p : ℕ) → alike_from start sought nodes ≡ Some p → (i : ℕ) × (p ≡ start + i) × (slice_get nodes i ≡ Some sought)
alike_from_found start sought [] p h = absurd (not_both p h)
alike_from_found start sought (other ∷ others) p h =
    ⊎_elim
    (λ t. (0, found t, ap Some (sym (alike_same sought other t))))
    (λ f. later (alike_from_found (suc start) sought others p (sym (cond-false (alike sought other) (Some start) (alike_from (suc start) sought others) f) ∙ h)))
    (cases_Bool (alike sought other))
  where
    found : alike sought other ≡ true → p ≡ start + 0
    found t = let e = some_same start p (sym (cond-true (alike sought other) (Some start) (alike_from (suc start) sought others) t) ∙ h) in omega (arith, e)

    later : (i : ℕ) × (p ≡ suc start + i) × (slice_get others i ≡ Some sought) → (i : ℕ) × (p ≡ start + i) × (slice_get (other ∷ others) i ≡ Some sought)
    later w = (suc w.0, omega (arith, w.1), w.2)

pub found_alike : (sought : Node) (nodes : List Node) (p : ℕ) → place_of_alike sought nodes ≡ Some p → slice_get nodes p ≡ Some sought
found_alike sought nodes p h =
    let w = alike_from_found 0 sought nodes p h in
    let e : w.0 ≡ p = omega (arith, w.1) in
    subst (λ (i : ℕ). slice_get nodes i ≡ Some sought) e w.2

-- a rose that stands goes on standing as nodes are added
mutual
  pub stands_later : (nodes new : List Node) (r : Rose) (p : ℕ) → Stands nodes r p → Stands (nodes ++ new) r p
  stands_later nodes new (grown k zs rs) p h =
      (h.0, nth_before nodes new p _ h.1, stand_each_later nodes new rs h.0 h.2, h.3)

  pub stand_each_later : (nodes new : List Node) (rs : Roses) (places : List ℕ) → StandEach nodes rs places → StandEach (nodes ++ new) rs places
  stand_each_later nodes new end places h = h
  stand_each_later nodes new (more r rs) places h =
      (h.0, h.1, h.2, stands_later nodes new r h.0 h.3, stand_each_later nodes new rs h.1 h.4)

stands_bound : (nodes : List Node) (r : Rose) (p : ℕ) → Stands nodes r p → p < length nodes
stands_bound nodes (grown k zs rs) p h = nth_bound nodes p _ h.1

stand_each_bound : (nodes : List Node) (rs : Roses) (places : List ℕ) → StandEach nodes rs places → AllByRecursion (λ s. s < length nodes) places
stand_each_bound nodes end places h = subst (AllByRecursion (λ (s : ℕ). s < length nodes)) (sym h) tt
stand_each_bound nodes (more r rs) places h =
    subst (AllByRecursion (λ (s : ℕ). s < length nodes)) (sym h.2) (stands_bound nodes r h.0 h.3, stand_each_bound nodes rs h.1 h.4)

pub stand_each_length : (nodes : List Node) (rs : Roses) (places : List ℕ) → StandEach nodes rs places → length places ≡ how_many rs
stand_each_length nodes end places h = ap length h
stand_each_length nodes (more r rs) places h = ap length h.2 ∙ ap suc (stand_each_length nodes rs h.1 h.4)

-- what holds of every rose in a rose
abbrev mutual
  pub Throughout : (Rose → Type 0) → Rose → Type 0
  Throughout P (grown k zs rs) = P (grown k zs rs) × ThroughoutEach P rs

  pub ThroughoutEach : (Rose → Type 0) → Roses → Type 0
  ThroughoutEach P end = Unit {0}
  ThroughoutEach P (more r rs) = Throughout P r × ThroughoutEach P rs

-- at each place stands a rose of which P holds
abbrev pub Covered : (Rose → Type 0) → List Node → Type 0
Covered P nodes = (p : ℕ) → p < length nodes → (s : Rose) × Stands nodes s p × P s

pub record IsMade (P : Rose → Type 0) (nodes : List Node) (r : Rose) (m : Made) : Type 0 where
  pub new : List Node
  pub grows : m.nodes ≡ nodes ++ new
  pub stands : Stands m.nodes r m.place
  pub covered : Covered P m.nodes

pub record AreMade (P : Rose → Type 0) (nodes : List Node) (rs : Roses) (m : MadeEach) : Type 0 where
  pub new : List Node
  pub grows : m.nodes ≡ nodes ++ new
  pub stand : StandEach m.nodes rs m.places
  pub covered : Covered P m.nodes

-- a node found at a place where a rose stands has its successors before it
before_found : (nodes : List Node) (s : Rose) (p : ℕ) (k : ℕ) (zs : List ℤ) (places : List ℕ) → Stands nodes s p → slice_get nodes p ≡ Some (node k zs places) → AllByRecursion (λ q. q < p) places
before_found nodes (grown l ws rs) p k zs places h found =
    let same = some_same _ _ (sym h.1 ∙ found) in
    subst (AllByRecursion (λ (q : ℕ). q < p)) (node_parts l k ws zs h.0 places same).2 h.3

covered_later : (P : Rose → Type 0) (nodes : List Node) (r : Rose) (new : Node) → Covered P nodes → Stands (nodes ++ new ∷ []) r (length nodes) → P r → Covered P (nodes ++ new ∷ [])
covered_later P nodes r new covered stands holds p bound =
    go (cases_lt p (length nodes))
  where
    go : (p < length nodes) ⊎ (length nodes ≤ p) → (s : Rose) × Stands (nodes ++ new ∷ []) s p × P s
    go (inl h) = let w = covered p h in (w.0, stands_later nodes (new ∷ []) w.0 p w.1, w.2)
    go (inr h) =
        let e : length nodes ≡ p = omega (arith, length-append nodes (new ∷ [])) in
        (r, subst (Stands (nodes ++ new ∷ []) r) e stands, holds)

made_node_lem : (P : Rose → Type 0) (nodes : List Node) (k : ℕ) (zs : List ℤ) (rs : Roses) (places : List ℕ) → StandEach nodes rs places → Covered P nodes → P (grown k zs rs)
    → IsMade P nodes (grown k zs rs) (made_node nodes (node k zs places))
made_node_lem P nodes k zs rs places stand covered holds = go (place_of_alike (node k zs places) nodes) refl
  where
    go : (o : Option ℕ) → place_of_alike (node k zs places) nodes ≡ o → IsMade P nodes (grown k zs rs) (found_or_next nodes (node k zs places) o)
    go (Some p) e =
        let found = found_alike (node k zs places) nodes p e in
        let w = covered p (nth_bound nodes p _ found) in
        record { new = []; grows = sym (append-nil nodes); stands = (places, found, stand, before_found nodes w.0 p k zs places w.1 found); covered = covered }
    go None e =
        let stands : Stands (nodes ++ node k zs places ∷ []) (grown k zs rs) (length nodes) =
        (places, nth_end nodes (node k zs places), stand_each_later nodes (node k zs places ∷ []) rs places stand, stand_each_bound nodes rs places stand)
        in
        record { new = node k zs places ∷ []; grows = refl; stands = stands; covered = covered_later P nodes (grown k zs rs) (node k zs places) covered stands holds }

mutual
  pub made_rose : (P : Rose → Type 0) (nodes : List Node) (r : Rose) → Covered P nodes → Throughout P r → IsMade P nodes r (made nodes r)
  made_rose P nodes (grown k zs rs) covered h =
      let each = made_roses P nodes rs covered h.1 in
      let here = made_node_lem P (made_each nodes rs).nodes k zs rs (made_each nodes rs).places each.stand each.covered h.0 in
      record { new = each.new ++ here.new; grows = here.grows ∙ ap (λ (t : List Node). t ++ here.new) each.grows ∙ append_assoc nodes each.new here.new; stands = here.stands; covered = here.covered }

  pub made_roses : (P : Rose → Type 0) (nodes : List Node) (rs : Roses) → Covered P nodes → ThroughoutEach P rs → AreMade P nodes rs (made_each nodes rs)
  made_roses P nodes end covered h = record { new = []; grows = sym (append-nil nodes); stand = refl; covered = covered }
  made_roses P nodes (more r rs) covered h =
      let first = made_rose P nodes r covered h.0 in
      let rest = made_roses P (made nodes r).nodes rs first.covered h.1 in
      record { new = first.new ++ rest.new; grows = rest.grows ∙ ap (λ (t : List Node). t ++ rest.new) first.grows ∙ append_assoc nodes first.new rest.new; stand = ((made nodes r).place, (made_each (made nodes r).nodes rs).places, refl, subst (λ (t : List Node). Stands t r (made nodes r).place) (sym rest.grows) (stands_later (made nodes r).nodes rest.new r (made nodes r).place first.stands), rest.stand); covered = rest.covered }
