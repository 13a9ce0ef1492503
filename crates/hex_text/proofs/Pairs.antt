-- Pairs of digits, one after another.
use Rattle.std.proofs.Common.{◌≡◌, ℕ, zero, suc, ◌+◌, ◌*◌, ◌/◌, ◌%◌, ◌<◌, ◌≤◌, Bool, true, false, cond, eqb, List, [], ◌∷◌, ◌++◌, length, get_or, take, drop, Some, None, Option, unwrap_or, sym, refl, ap, ◌∙◌, arith}
use Rattle.std.proofs.lemmas.List.{append_assoc, at_drop_all, at_drop_more, drop-drop, drop_more, get_or-drop, get_or-take, take_all, take_more}
use Rattle.std.proofs.lemmas.Bool.{cond-false, ne_eqb}
use Rattle.std.specs.Option.{option_map, option_zip}
use Rattle.std.specs.Simd.{first_chunks}
use Rattle.hex_text.specs.Hex.{bytes_in, bytes_of, pair_value, pairs_of}

abbrev pub before : Option ℕ → Option (List ℕ) → Option (List ℕ)
before byte bytes = option_map (λ p. p.0 ∷ p.1) (option_zip byte bytes)

pub pairs_more : (xs : List ℕ) (i : ℕ) → 2 * i + 1 < length xs → pairs_of (drop (2 * i) xs) ≡ before (pair_value (get_or xs (2 * i) 0) (get_or xs (2 * i + 1) 0)) (pairs_of (drop (2 * (i + 1)) xs))
pairs_more xs i h =
    let next : 2 * i + 1 + 1 ≡ 2 * (i + 1) = omega arith in
    at_drop_more pairs_of xs (2 * i) 0 (omega arith)
    ∙ (ap (λ ys. pairs_of (get_or xs (2 * i) 0 ∷ ys)) (drop_more xs (2 * i + 1) 0 h)
    ∙ ap (λ n. before (pair_value (get_or xs (2 * i) 0) (get_or xs (2 * i + 1) 0)) (pairs_of (drop n xs))) next)

-- The digits of a pair, where a text is cut into pairs.
pair_cut : (k : ℕ) (xs : List ℕ) (i : ℕ) → i < k → get_or (first_chunks 2 k xs) i [] ≡ take 2 (drop (2 * i) xs)
pair_cut zero xs i h = absurd (omega arith)
pair_cut (suc k) xs zero h = refl
pair_cut (suc k) xs (suc i) h =
    let next : 2 + 2 * i ≡ 2 * suc i = omega arith in
    pair_cut k (drop 2 xs) i (omega arith) ∙ (ap (take 2) (drop-drop (2 * i) 2 xs) ∙ ap (λ n. take 2 (drop n xs)) next)

pub pair_is : (xs : List ℕ) (pairs : List (List ℕ)) (k i : ℕ) → pairs ≡ first_chunks 2 k xs → i < k → pair_value (get_or (get_or pairs i []) 0 0) (get_or (get_or pairs i []) 1 0) ≡ pair_value (get_or xs (2 * i) 0) (get_or xs (2 * i + 1) 0)
pair_is xs pairs k i e h =
    let here : 2 * i + 0 ≡ 2 * i = omega arith in
    ap (λ p. pair_value (get_or p 0 0) (get_or p 1 0)) (ap (λ ps. get_or ps i []) e ∙ pair_cut k xs i h)
    ∙ (ap (λ n. pair_value n (get_or (take 2 (drop (2 * i) xs)) 1 0)) (get_or-take 2 (drop (2 * i) xs) 0 0 (omega arith) ∙ get_or-drop (2 * i) xs 0 0 ∙ ap (λ n. get_or xs n 0) here)
    ∙ ap (λ n. pair_value (get_or xs (2 * i) 0) n) (get_or-take 2 (drop (2 * i) xs) 1 0 (omega arith) ∙ get_or-drop (2 * i) xs 1 0))

-- How many bytes the pairs say.
abbrev pub counted : List ℕ → Option ℕ
counted xs = option_map length (pairs_of xs)

abbrev pub past : ℕ → Option ℕ → Option ℕ
past i count = option_map (λ n. i + n) count

past_more : (i b : ℕ) (rest : Option (List ℕ)) → past i (option_map length (before (Some b) rest)) ≡ past (i + 1) (option_map length rest)
past_more i b None = refl
past_more i b (Some bs) = let e : i + suc (length bs) ≡ i + 1 + length bs = omega arith in ap Some e

pub count_none : (xs : List ℕ) → counted xs ≡ past 0 (counted (drop (2 * 0) xs))
count_none xs = go (counted xs)
  where
    go : (o : Option ℕ) → o ≡ past 0 o
    go None = refl
    go (Some n) = let e : n ≡ 0 + n = omega arith in ap Some e

pub count_more : (xs : List ℕ) (i b : ℕ) → 2 * i + 1 < length xs → Some b ≡ pair_value (get_or xs (2 * i) 0) (get_or xs (2 * i + 1) 0) → counted xs ≡ past i (counted (drop (2 * i) xs)) → counted xs ≡ past (i + 1) (counted (drop (2 * (i + 1)) xs))
count_more xs i b h e was =
    was
    ∙ (ap (λ o. past i (option_map length o)) (pairs_more xs i h ∙ ap (λ v. before v (pairs_of (drop (2 * (i + 1)) xs))) (sym e))
    ∙ past_more i b (pairs_of (drop (2 * (i + 1)) xs)))

pub count_stops : (xs : List ℕ) (i : ℕ) → 2 * i + 1 < length xs → None ≡ pair_value (get_or xs (2 * i) 0) (get_or xs (2 * i + 1) 0) → counted xs ≡ past i (counted (drop (2 * i) xs)) → counted xs ≡ None
count_stops xs i h e was =
    was ∙ ap (λ o. past i (option_map length o)) (pairs_more xs i h ∙ ap (λ v. before v (pairs_of (drop (2 * (i + 1)) xs))) (sym e))

pub count_all : (xs : List ℕ) (n : ℕ) → length xs ≤ 2 * n → counted xs ≡ past n (counted (drop (2 * n) xs)) → counted xs ≡ Some n
count_all xs n h was =
    let e : n + 0 ≡ n = omega arith in
    was ∙ (at_drop_all (λ ys. past n (counted ys)) xs (2 * n) h ∙ ap Some e)

before_none : (o : Option ℕ) → before o None ≡ None
before_none None = refl
before_none (Some b) = refl

pairs_odd : (xs : List ℕ) (n : ℕ) → length xs ≡ 2 * n + 1 → pairs_of xs ≡ None
pairs_odd [] n h = absurd (omega arith)
pairs_odd (c ∷ []) n h = refl
pairs_odd (a ∷ b ∷ rest) zero h = absurd (omega arith)
pairs_odd (a ∷ b ∷ rest) (suc n) h = ap (before (pair_value a b)) (pairs_odd rest n (omega arith)) ∙ before_none (pair_value a b)

pub bytes_none : (xs : List ℕ) → (2 ≤ length xs → length xs % 2 ≡ 1) → (xs ≡ 45 ∷ [] → ⊥) → bytes_of xs ≡ None
bytes_none [] odd h = refl
bytes_none (c ∷ []) odd h = cond-false _ _ _ (ne_eqb c 45 (λ e. h (ap (λ d. d ∷ []) e)))
bytes_none (a ∷ b ∷ rest) odd h = pairs_odd (a ∷ b ∷ rest) (length (a ∷ b ∷ rest) / 2) (omega (arith, odd (omega arith)))

pub bytes_pairs : (xs : List ℕ) → 2 ≤ length xs → bytes_of xs ≡ pairs_of xs
bytes_pairs [] h = absurd (omega arith)
bytes_pairs (c ∷ []) h = absurd (omega arith)
bytes_pairs (a ∷ b ∷ rest) h = refl

-- Each pair says the byte at its place.
record Says (a b : ℕ) (rest bs : List ℕ) : Type 0 where
  first : ℕ
  more : List ℕ
  whole : bs ≡ first ∷ more
  here : pair_value a b ≡ Some first
  later : pairs_of rest ≡ Some more

says : (a b : ℕ) (rest bs : List ℕ) (v : Option ℕ) (o : Option (List ℕ)) → pair_value a b ≡ v → pairs_of rest ≡ o → before v o ≡ Some bs → Says a b rest bs
says a b rest bs None o here later e = absurd (let z : ◌≡◌ {A = ℕ} 0 1 = cc in omega arith)
says a b rest bs (Some v) None here later e = absurd (let z : ◌≡◌ {A = ℕ} 0 1 = cc in omega arith)
says a b rest bs (Some v) (Some vs) here later e = record { first = v; more = vs; whole = cc; here = here; later = later }

pub pairs_length : (xs bs : List ℕ) → pairs_of xs ≡ Some bs → length xs ≡ 2 * length bs
pairs_length [] bs e = let z : bs ≡ [] = cc in ap (λ ys. 2 * length ys) (sym z)
pairs_length (c ∷ []) bs e = absurd (let z : ◌≡◌ {A = ℕ} 0 1 = cc in omega arith)
pairs_length (a ∷ b ∷ rest) bs e =
    let s = says a b rest bs (pair_value a b) (pairs_of rest) refl refl e in
    omega (arith, pairs_length rest s.more s.later, ap length s.whole)

pub pair_at : (xs bs : List ℕ) → pairs_of xs ≡ Some bs → (i : ℕ) → i < length bs → pair_value (get_or xs (2 * i) 0) (get_or xs (2 * i + 1) 0) ≡ Some (get_or bs i 0)
pair_at [] bs e i h = let z : bs ≡ [] = cc in absurd (omega (arith, ap length z))
pair_at (c ∷ []) bs e i h = absurd (let z : ◌≡◌ {A = ℕ} 0 1 = cc in omega arith)
pair_at (a ∷ b ∷ rest) bs e zero h =
    let s = says a b rest bs (pair_value a b) (pairs_of rest) refl refl e in
    s.here ∙ ap (λ ys. Some (get_or ys 0 0)) (sym s.whole)
pair_at (a ∷ b ∷ rest) bs e (suc i) h =
    let s = says a b rest bs (pair_value a b) (pairs_of rest) refl refl e in
    let high : 2 * suc i ≡ suc (suc (2 * i)) = omega arith in
    let low : 2 * suc i + 1 ≡ suc (suc (2 * i + 1)) = omega arith in
    let left : i < length s.more = omega (arith, ap length s.whole) in
    ap (λ n. pair_value (get_or (a ∷ b ∷ rest) n 0) (get_or (a ∷ b ∷ rest) (2 * suc i + 1) 0)) high
    ∙ (ap (λ n. pair_value (get_or rest (2 * i) 0) (get_or (a ∷ b ∷ rest) n 0)) low
    ∙ (pair_at rest s.more s.later i left
    ∙ ap (λ ys. Some (get_or ys (suc i) 0)) (sym s.whole)))

-- What is decoded, in terms of its count.
pub bytes_in_lem : (xs : List ℕ) (n : ℕ) → Some n ≡ option_map length (bytes_of xs) → bytes_of xs ≡ Some (bytes_in xs)
bytes_in_lem xs n e = go (bytes_of xs) e
  where
    go : (o : Option (List ℕ)) → Some n ≡ option_map length o → o ≡ Some (unwrap_or o [])
    go None h = absurd (let z : ◌≡◌ {A = ℕ} 0 1 = cc in omega arith)
    go (Some bs) h = refl

pub length_bytes_in : (xs : List ℕ) (n : ℕ) → Some n ≡ option_map length (bytes_of xs) → length (bytes_in xs) ≡ n
length_bytes_in xs n e = go (bytes_of xs) e
  where
    go : (o : Option (List ℕ)) → Some n ≡ option_map length o → length (unwrap_or o []) ≡ n
    go None h = absurd (let z : ◌≡◌ {A = ℕ} 0 1 = cc in omega arith)
    go (Some bs) h = let k : n ≡ length bs = cc in sym k

pub none_decoded : (xs : List ℕ) → None ≡ option_map length (bytes_of xs) → bytes_of xs ≡ None
none_decoded xs e = go (bytes_of xs) e
  where
    go : (o : Option (List ℕ)) → None ≡ option_map length o → o ≡ None
    go None h = refl
    go (Some bs) h = absurd (let z : ◌≡◌ {A = ℕ} 0 1 = cc in omega arith)

-- A pair for each byte.
pub pairs_counted : (xs : List ℕ) (n : ℕ) → Some n ≡ option_map length (bytes_of xs) → length xs / 2 ≡ n
pairs_counted [] n e = absurd (let z : ◌≡◌ {A = ℕ} 0 1 = cc in omega arith)
pairs_counted (c ∷ []) n e = go (eqb c 45) e
  where
    go : (t : Bool) → Some n ≡ option_map (length {A = ℕ}) (cond t (Some []) None) → 1 / 2 ≡ n
    go true h = let k : n ≡ 0 = cc in omega (arith, k)
    go false h = absurd (let z : ◌≡◌ {A = ℕ} 0 1 = cc in omega arith)
pairs_counted (a ∷ b ∷ rest) n e =
    let pairs = pairs_length (a ∷ b ∷ rest) (bytes_in (a ∷ b ∷ rest)) (bytes_in_lem (a ∷ b ∷ rest) n e) in
    omega (arith, pairs, length_bytes_in (a ∷ b ∷ rest) n e)

-- A byte that is decoded has its two digits.
pairs_say : (xs bs : List ℕ) → bytes_of xs ≡ Some bs → 0 < length bs → pairs_of xs ≡ Some bs
pairs_say [] bs e h = absurd (let z : ◌≡◌ {A = ℕ} 0 1 = cc in omega arith)
pairs_say (c ∷ []) bs e h = go (eqb c 45) e
  where
    go : (t : Bool) → cond t (Some []) None ≡ Some bs → pairs_of (c ∷ []) ≡ Some bs
    go true k = let z : bs ≡ [] = cc in absurd (omega (arith, ap length z))
    go false k = absurd (let z : ◌≡◌ {A = ℕ} 0 1 = cc in omega arith)
pairs_say (a ∷ b ∷ rest) bs e h = e

pub byte_at : (xs : List ℕ) (n i : ℕ) → Some n ≡ option_map length (bytes_of xs) → i < n → pair_value (get_or xs (2 * i) 0) (get_or xs (2 * i + 1) 0) ≡ Some (get_or (bytes_in xs) i 0)
byte_at xs n i e h =
    let long = length_bytes_in xs n e in
    pair_at xs (bytes_in xs) (pairs_say xs (bytes_in xs) (bytes_in_lem xs n e) (omega arith)) i (omega arith)

-- one byte more
pub bytes_more : (before xs : List ℕ) (n i byte : ℕ) → Some n ≡ option_map length (bytes_of xs) → i < n → Some byte ≡ pair_value (get_or xs (2 * i) 0) (get_or xs (2 * i + 1) 0) → (before ++ take i (bytes_in xs)) ++ byte ∷ [] ≡ before ++ take (i + 1) (bytes_in xs)
bytes_more before xs n i byte e h here =
    let long = length_bytes_in xs n e in
    let at = byte_at xs n i e h in
    let same : byte ≡ get_or (bytes_in xs) i 0 = cc in
    append_assoc before (take i (bytes_in xs)) (byte ∷ [])
    ∙ (ap (λ b. before ++ (take i (bytes_in xs) ++ b ∷ [])) same
    ∙ ap (λ ys. before ++ ys) (sym (take_more (bytes_in xs) i 0 (omega arith))))

pub bytes_all : (before bs : List ℕ) (i : ℕ) → length bs ≤ i → before ++ take i bs ≡ before ++ bs
bytes_all before bs i h = ap (λ ys. before ++ ys) (take_all i bs h)
