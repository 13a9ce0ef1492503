-- What is printed, once it is known by another name.
use Rattle.std.proofs.Common.{◌≡◌, ℕ, zero, suc, ◌+◌, ◌<◌, ◌≤◌, List, [], ◌∷◌, ◌++◌, length, get_or, map, take, IfOk, Some, None, Ok, Err, vec_items, Option, Result, Vec, sym, refl, ap, ◌∙◌, subst, suc-add, arith}
use Rattle.std.specs.List.{slice_get, flat_map}
use Rattle.std.specs.declared.alloc.AllocError.{AllocError}
use Rattle.script.specs.Growth.{Appended}
use Rattle.std.proofs.lemmas.List.{flat_map_more, length-map, take_all}
use Rattle.refusal.specs.declared.Refusal.{Refusal}
use Rattle.records.specs.Outcome.{answered}
use Rattle.script.specs.declared.reply.Reply.{Reply}
use Rattle.chart.specs.Session.{replied, reply_of}

-- the elements up to one that is found
take_nth : {R : Type 0} (xs : List R) (i : ℕ) (r : R) → Some r ≡ slice_get xs i → take (i + 1) xs ≡ take i xs ++ r ∷ []
take_nth [] i r e = absurd (let z : ◌≡◌ {A = ℕ} 0 1 = cc in omega arith)
take_nth (x ∷ xs) zero r e = let same : r ≡ x = cc in ap (λ (y : _). y ∷ []) (sym same)
take_nth (x ∷ xs) (suc i) r e = rw suc-add (ap (λ (l : List _). x ∷ l) (take_nth xs i r e))

pub retold : {E : Type 0} (r : Result (Unit {0}) E) (after before line other : List ℕ) → line ≡ other → IfOk r (λ _. after ≡ before ++ line) → IfOk r (λ _. after ≡ before ++ other)
retold r after before line other e h = subst (λ (l : List ℕ). IfOk r (λ _. after ≡ before ++ l)) e h

pub replied_is : (o : Option Refusal) (done : Reply) → reply_of (answered o (tt {0})) done ≡ replied o done
replied_is None done = refl
replied_is (Some refusal) done = refl

-- A line that was written stands at the end.
pub standing : {Z : Type 0} (before : Vec ℕ Z) (bytes : List ℕ) (r : Result (Unit {0}) AllocError) (after : Vec ℕ Z) → Appended before bytes r after → IfOk r (λ _. vec_items after ≡ vec_items before ++ bytes)
standing before bytes (Ok _) after h = h.items
standing before bytes (Err _) after h = tt

-- One record more is listed.
listed_more : {R : Type 0} (line : R → List ℕ) (held : List R) (i : ℕ) (r : R) (start so_far now-there : List ℕ) → Some r ≡ slice_get held i → so_far ≡ start ++ flat_map line (take i held) → now-there ≡ so_far ++ line r → now-there ≡ start ++ flat_map line (take (i + 1) held)
listed_more line held i r start so_far now-there at before written =
    written ∙ ap (λ (l : List ℕ). l ++ line r) before ∙ flat_map_more line start (take i held) r ∙ ap (λ (l : List _). start ++ flat_map line l) (sym (take_nth held i r at))

-- The same of the records of what a register holds.
mapped_at : {T R : Type 0} (f : T → R) (xs : List T) (i : ℕ) (d : T) → i < length xs → Some (f (get_or xs i d)) ≡ slice_get (map f xs) i
mapped_at f [] i d below = absurd (omega arith)
mapped_at f (x ∷ xs) zero d below = refl
mapped_at f (x ∷ xs) (suc i) d below = mapped_at f xs i d (omega arith)

pub next_listed : {T R : Type 0} (f : T → R) (line : R → List ℕ) (xs : List T) (held : List R) (i : ℕ) (x : T) (r : R) (start so_far now-there : List ℕ) → map f xs ≡ held → i < length xs → x ≡ get_or xs i x → r ≡ f x → so_far ≡ start ++ flat_map line (take i held) → now-there ≡ so_far ++ line r → now-there ≡ start ++ flat_map line (take (i + 1) held)
next_listed f line xs held i x r start so_far now-there is below at from before written =
    listed_more line held i r start so_far now-there (ap (λ (y : _). Some y) (from ∙ ap f at) ∙ mapped_at f xs i x below ∙ ap (λ (l : List _). slice_get l i) is) before written

-- All records are listed once the place is past the last.
listed_all : {R : Type 0} (line : R → List ℕ) (held : List R) (i : ℕ) (start there : List ℕ) → length held ≤ i → there ≡ start ++ flat_map line (take i held) → there ≡ start ++ flat_map line held
listed_all line held i start there past e = e ∙ ap (λ (l : List _). start ++ flat_map line l) (take_all i held past)

pub whole_listed : {T R : Type 0} (f : T → R) (line : R → List ℕ) (xs : List T) (held : List R) (i : ℕ) (start there : List ℕ) → map f xs ≡ held → length xs ≤ i → there ≡ start ++ flat_map line (take i held) → there ≡ start ++ flat_map line held
whole_listed f line xs held i start there is past e = listed_all line held i start there (omega (arith, past, ap length is, length-map xs f)) e
