-- One part of a line after another.
use Rattle.std.proofs.Common.{◌≡◌, ℕ, ◌+◌, ◌<◌, ◌≤◌, Bool, true, false, cond, List, [], ◌∷◌, ◌++◌, length, take, is_ok, is_err, Ok, Err, vec_items, vec_len, vec_capacity, Result, Vec, sym, refl, ap, ◌∙◌, subst, inl, inr, arith, length-append, OnErr}
use Rattle.std.proofs.lemmas.List.{append_assoc, append-nil, take_at, take-take, take_all}
use Rattle.std.proofs.lemmas.Bool.{true≢false, false≢true, cases_lt}
use Rattle.std.specs.declared.alloc.AllocError.{AllocError}
use Rattle.script.specs.Growth.{Appended, Finished, Grown}

err_not_ok : {T E : Type 0} (r : Result T E) → is_err r ≡ true → is_ok r ≡ true → ⊥
err_not_ok (Ok x) fails h = false≢true fails
err_not_ok (Err x) fails h = false≢true h

module _ {Z : Type 0} where
  -- what a single call of the vector says
  pub grown_once : (a b : Vec ℕ Z) (bytes : List ℕ) (r : Result (Unit {0}) AllocError) → vec_len a ≡ length (vec_items a) → vec_items b ≡ cond (is_ok r) (vec_items a ++ bytes) (vec_items a) → OnErr r (vec_capacity a < vec_len a + length bytes) → vec_capacity a ≤ vec_capacity b → Grown a bytes r b
  grown_once a b bytes (Ok x) long items cases room =
      record { grows = λ _. items; keeps = ap (take (length (vec_items a))) items ∙ take_at (vec_items a) bytes _ refl; lacks = λ e. absurd (true≢false e); room = room }
  grown_once a b bytes (Err x) long items cases room =
      record { grows = λ e. absurd (false≢true e); keeps = ap (take (length (vec_items a))) items ∙ take_all _ (vec_items a) (omega arith); lacks = λ _. omega arith; room = room }

  pub grown_none : (a : Vec ℕ Z) (x : Unit {0}) → Grown a [] (Ok x) a
  grown_none a x =
      record {
        grows = λ _. sym (append-nil (vec_items a));
        keeps = take_all _ (vec_items a) (omega arith);
        lacks = λ e. absurd (true≢false e);
        room = omega arith;
      }

  pub grown_then : {a b c : Vec ℕ Z} {xs ys bytes : List ℕ} {x : Unit {0}} {r : Result (Unit {0}) AllocError} → bytes ≡ xs ++ ys → Grown a xs (Ok x) b → Grown b ys r c → Grown a bytes r c
  grown_then {a = a} {b = b} {c = c} {xs = xs} {ys = ys} {bytes = bytes} e first second =
      let now-b = first.grows refl in
      let long-b : length (vec_items b) ≡ length (vec_items a) + length xs = ap length now-b ∙ length-append (vec_items a) xs in
      let long : length bytes ≡ length xs + length ys = ap length e ∙ length-append xs ys in
      record {
        grows = λ h. second.grows h ∙ (ap (λ zs. zs ++ ys) now-b ∙ (append_assoc (vec_items a) xs ys ∙ ap (λ zs. vec_items a ++ zs) (sym e)));
        keeps =
            sym (take-take (length (vec_items a)) (length (vec_items b)) (vec_items c) (omega arith))
            ∙ (ap (take (length (vec_items a))) (second.keeps ∙ now-b) ∙ take_at (vec_items a) xs _ refl);
        lacks = λ h. omega (arith, second.lacks h, first.room);
        room = omega (arith, first.room, second.room);
      }

  -- a part that failed, and with it the line, of which ys was still to come
  pub grown_stop : {a b : Vec ℕ Z} {xs bytes : List ℕ} {x : AllocError} {r : Result (Unit {0}) AllocError} → is_err r ≡ true → (ys : List ℕ) → bytes ≡ xs ++ ys → Grown a xs (Err x) b → Grown a bytes r b
  grown_stop {xs = xs} {bytes = bytes} {r = r} fails ys e first =
      let long : length bytes ≡ length xs + length ys = ap length e ∙ length-append xs ys in
      record {
        grows = λ h. absurd (err_not_ok r fails h);
        keeps = first.keeps;
        lacks = λ _. omega (arith, first.lacks refl);
        room = first.room;
      }

  pub grown_at : {a b : Vec ℕ Z} {xs bytes : List ℕ} {r : Result (Unit {0}) AllocError} → bytes ≡ xs → Grown a xs r b → Grown a bytes r b
  grown_at {a = a} {b = b} {r = r} e first = subst (λ (zs : List ℕ). Grown a zs r b) (sym e) first

  -- a line whose end was written, or that was taken back
  pub appended : (a b c : Vec ℕ Z) (line : List ℕ) (start : ℕ) (written r : Result (Unit {0}) AllocError) → start ≡ length (vec_items a) → Grown a line written b → Finished b start written r c → Appended a (line ++ (10 ∷ [])) r c
  appended a b c line start written (Ok x) e first last =
      let whole = first.grows (last.passes refl) in
      record {
        items = last.items ∙ (ap (λ zs. zs ++ (10 ∷ [])) whole ∙ append_assoc (vec_items a) line (10 ∷ []));
        succeeds = λ _. refl;
      }
  appended a b c line start written (Err x) e first last =
      record {
        items = last.items ∙ (ap (λ n. take n (vec_items b)) e ∙ first.keeps);
        succeeds = λ h. absurd (no_room (is_ok written) refl h);
      }
    where
      no_room : (t : Bool) → is_ok written ≡ t → length (vec_items a) + length (line ++ (10 ∷ [])) ≤ vec_capacity a → ⊥
      no_room true t h =
          omega (arith, first.room, last.lacks refl t, length-append line (10 ∷ []), ap length (first.grows t), length-append (vec_items a) line)
      no_room false t h = omega (arith, first.lacks t, length-append line (10 ∷ []))

  pub not_written : (b m c : Vec ℕ Z) (start : ℕ) (written : Result (Unit {0}) AllocError) (x : AllocError) → is_ok written ≡ false → m ≡ b → vec_items c ≡ take start (vec_items m) → Finished b start written (Err x) c
  not_written b m c start written x fails same cut =
      record {
        items = cut ∙ ap (λ v. take start (vec_items v)) same;
        passes = λ e. absurd (false≢true e);
        lacks = λ _ e. absurd (true≢false (sym e ∙ fails));
      }

  pub not_ended : (b m n c : Vec ℕ Z) (start : ℕ) (written r : Result (Unit {0}) AllocError) (x : AllocError) → vec_len b ≡ length (vec_items b) → is_ok r ≡ false → vec_items n ≡ cond (is_ok r) (vec_items b ++ (10 ∷ [])) (vec_items b) → OnErr r (vec_capacity b < vec_len b + 1) → m ≡ n → vec_items c ≡ take start (vec_items m) → Finished b start written (Err x) c
  not_ended b m n c start written (Ok y) x long fails items cases same cut = absurd (true≢false fails)
  not_ended b m n c start written (Err y) x long fails items cases same cut =
      record {
        items = cut ∙ (ap (λ v. take start (vec_items v)) same ∙ ap (take start) items);
        passes = λ e. absurd (false≢true e);
        lacks = λ _ _. omega arith;
      }

  -- a part that is written whole or not at all
  pub grown_whole : (a b : Vec ℕ Z) (bytes : List ℕ) (r : Result (Unit {0}) AllocError) → vec_len a ≡ length (vec_items a) → vec_len b ≡ length (vec_items b) → vec_items b ≡ cond (is_ok r) (vec_items a ++ bytes) (vec_items a) → (vec_len a + length bytes ≤ vec_capacity a → is_ok r ≡ true) → vec_capacity a ≤ vec_capacity b → Grown a bytes r b
  grown_whole a b bytes (Ok x) long-a long-b items succeeds room =
      grown_once a b bytes (Ok x) long-a items tt room
  grown_whole a b bytes (Err x) long-a long-b items succeeds room = grown_once a b bytes (Err x) long-a items lacks room
    where
      lacks : vec_capacity a < vec_len a + length bytes
      lacks = elim (cases_lt (vec_capacity a) (vec_len a + length bytes)) [ inl h ↦ h | inr h ↦ absurd (false≢true (succeeds h)) ]
