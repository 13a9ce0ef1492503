-- A listed record, read again.
use Rattle.std.proofs.Common.{◌≡◌, ℕ, ◌*◌, ◌≤◌, true, ltb, List, [], ◌∷◌, ◌++◌, map, length, ℤ, Some, None, codes, refl, ap, ◌∙◌, inl, arith, length-append}
use Rattle.std.proofs.lemmas.Bool.{and_parts, cond-false, le-ltb}
use Rattle.std.specs.Option.{option_map}
use Rattle.std.specs.Fmt.{signed_decimal}
use Rattle.std.specs.List.{flat_map}
use Rattle.script.specs.declared.command.ChartKind.{ChartKind}
use Rattle.script.specs.declared.command.ChartKind.TheVariants.{Zone, Site}
use Rattle.script.specs.declared.command.Command.TheVariants.{AddEdge, AddSite}
use Rattle.script.specs.Command.{read_add, read_command, read_edge, read_site, read_words}
use Rattle.script.specs.Lines.{field, numbers_of_edge, numbers_of_site, with_numbers}
use Rattle.script.specs.Number.{is_number, number_of}
use Rattle.script.specs.ReadBack.{ListedEdgesReadBack, ListedSitesReadBack, all_numbers}
use Rattle.script.specs.Words.{without_empty, words_of}
use Rattle.script.proofs.Decimal.{cut_signed, number_signed, signed_short, signed_some}
use Rattle.script.proofs.Pieces.{Ends, cut_separator, words_of_word}

fields_end : (zs : List ℤ) → Ends (flat_map field zs)
fields_end [] = tt
fields_end (z ∷ zs) = inl refl

words_fields : (zs : List ℤ) → all_numbers zs ≡ true → words_of (flat_map field zs) ≡ map signed_decimal zs
words_fields [] h = refl
words_fields (z ∷ zs) h =
    let p = and_parts (is_number z) (all_numbers zs) h in
    ap without_empty (cut_separator 32 (signed_decimal z ++ flat_map field zs) refl)
    ∙ (words_of_word (signed_decimal z ++ flat_map field zs) (signed_decimal z) (flat_map field zs) (signed_some z p.0) (cut_signed z p.0 (flat_map field zs)) (fields_end zs)
    ∙ ap (λ ws. signed_decimal z ∷ ws) (words_fields zs p.1))

words_add : (zs : List ℤ) → all_numbers zs ≡ true → words_of (with_numbers (codes "add") zs) ≡ codes "add" ∷ map signed_decimal zs
words_add zs h =
    words_of_word (with_numbers (codes "add") zs) (codes "add") (flat_map field zs) (omega arith) refl (fields_end zs)
    ∙ ap (λ ws. codes "add" ∷ ws) (words_fields zs h)

fields_short : (zs : List ℤ) → all_numbers zs ≡ true → length (flat_map field zs) ≤ 21 * length zs
fields_short [] h = omega arith
fields_short (z ∷ zs) h =
    let p = and_parts (is_number z) (all_numbers zs) h in
    omega (arith, length-append (signed_decimal z) (flat_map field zs), signed_short z p.0, fields_short zs p.1)

read_add_lem : (kind : ChartKind) (zs : List ℤ) → all_numbers zs ≡ true → length zs ≤ 6 → read_command kind (with_numbers (codes "add") zs) ≡ read_add kind (map signed_decimal zs)
read_add_lem kind zs h few =
    let long : length (with_numbers (codes "add") zs) ≤ 200000 = omega (arith, fields_short zs h) in
    cond-false (ltb 200000 (length (with_numbers (codes "add") zs))) None (read_words kind (words_of (with_numbers (codes "add") zs))) (le-ltb 200000 _ long)
    ∙ ap (read_words kind) (words_add zs h)

read_site_lem : (a b c : List ℕ) (n x y : ℤ) → number_of a ≡ Some n → number_of b ≡ Some x → number_of c ≡ Some y → read_site (a ∷ b ∷ c ∷ []) ≡ Some (record { number = n; x = x; y = y })
read_site_lem a b c n x y ea eb ec = rw (ea, eb, ec)

read_edge_lem : (a b c d e f : List ℕ) (n x1 y1 x2 y2 zone : ℤ) → number_of a ≡ Some n → number_of b ≡ Some x1 → number_of c ≡ Some y1 → number_of d ≡ Some x2 → number_of e ≡ Some y2 → number_of f ≡ Some zone → read_edge (a ∷ b ∷ c ∷ d ∷ e ∷ f ∷ []) ≡ Some (record { number = n; x1 = x1; y1 = y1; x2 = x2; y2 = y2; zone = zone })
read_edge_lem a b c d e f n x1 y1 x2 y2 zone ea eb ec ed ee ef = rw (ea, eb, ec, ed, ee, ef)

pub listed_sites_read_back : ListedSitesReadBack
listed_sites_read_back s h =
    let number = and_parts (is_number s.number) _ h in
    let x = and_parts (is_number s.x) _ number.1 in
    let y = and_parts (is_number s.y) _ x.1 in
    read_add_lem Site (numbers_of_site s) h (omega arith)
    ∙ ap (option_map AddSite)
    (read_site_lem (signed_decimal s.number) (signed_decimal s.x) (signed_decimal s.y) s.number s.x s.y
    (number_signed s.number number.0) (number_signed s.x x.0) (number_signed s.y y.0))

pub listed_edges_read_back : ListedEdgesReadBack
listed_edges_read_back e h =
    let number = and_parts (is_number e.number) _ h in
    let x1 = and_parts (is_number e.x1) _ number.1 in
    let y1 = and_parts (is_number e.y1) _ x1.1 in
    let x2 = and_parts (is_number e.x2) _ y1.1 in
    let y2 = and_parts (is_number e.y2) _ x2.1 in
    let zone = and_parts (is_number e.zone) _ y2.1 in
    read_add_lem Zone (numbers_of_edge e) h (omega arith)
    ∙ ap (option_map AddEdge)
    (read_edge_lem (signed_decimal e.number) (signed_decimal e.x1) (signed_decimal e.y1) (signed_decimal e.x2) (signed_decimal e.y2) (signed_decimal e.zone)
    e.number e.x1 e.y1 e.x2 e.y2 e.zone
    (number_signed e.number number.0) (number_signed e.x1 x1.0) (number_signed e.y1 y1.0)
    (number_signed e.x2 x2.0) (number_signed e.y2 y2.0) (number_signed e.zone zone.0))
