-- The digests at successor places, gathered one after another.
use Rattle.std.proofs.Common.{◌≡◌, ℕ, ◌+◌, ◌<◌, List, [], ◌∷◌, ◌++◌, length, get_or, take, set, Some, None, Option, sym, refl, ap, ◌∙◌, subst}
use Rattle.std.specs.List.{slice_get, AllByRecursion}
use Rattle.std.proofs.lemmas.List.{append-nil, take_more, take_more_set}
use Rattle.std.proofs.ByRecursion.{All-push}
use Rattle.std.specs.Borrow.{Bor}
use Rattle.std.specs.Option.{option_map}
use Rattle.std.specs.Slice.{IsItemAt}
use Rattle.std.proofs.lemmas.Option.{slice_get-map, slice_get_past, slice_get_read}
use Rattle.node.specs.Sizes.{IsDigest}
use Rattle.search.specs.declared.sheet.SheetRecord.{SheetRecord}
use Rattle.search.specs.Picks.{ahead, picks}
use Rattle.calls.specs.Sheets.{stored_digests}
use Rattle.calls.proofs.Picking.{picks_append}

pub picks_more : {X : Type 0} (xs : List X) (places : List ℕ) (i : ℕ) (found : Option X) → i < length places → slice_get xs (get_or places i 0) ≡ found
    → picks xs (take (i + 1) places) ≡ picks xs (take i places) ++ ahead found []
picks_more xs places i found inside is =
    ap (picks xs) (take_more places i 0 inside) ∙ picks_append xs (take i places) (get_or places i 0 ∷ []) ∙ ap (λ o. picks xs (take i places) ++ ahead o []) is

-- what is looked up among the records
pub digest_at : (counted : List SheetRecord) (place : ℕ) (r : Option (Bor SheetRecord)) → IsItemAt counted place r → slice_get (stored_digests counted) place ≡ option_map (λ b. b.now.digest) r
digest_at counted place None h = slice_get-map (λ (r : SheetRecord). r.digest) counted place ∙ ap (option_map (λ (r : SheetRecord). r.digest)) (slice_get_past counted place h.3)
digest_at counted place (Some b) h =
    slice_get-map (λ (r : SheetRecord). r.digest) counted place ∙ ap (option_map (λ (r : SheetRecord). r.digest)) (slice_get_read counted (length counted) place b.now refl h.3.0 h.1)

-- one more place looked at: its digest is stored behind the others, or there is none
pub one_stored : {X : Type 0} (xs : List X) (places : List ℕ) (i : ℕ) (stored : List X) (found : ℕ) (digest : X)
    → i < length places → found < length stored → take found stored ≡ picks xs (take i places) → slice_get xs (get_or places i 0) ≡ Some digest
    → take (found + 1) (set stored found digest) ≡ picks xs (take (i + 1) places)
one_stored xs places i stored found digest inside room so_far is =
    take_more_set stored found digest room ∙ ap (λ t. t ++ digest ∷ []) so_far ∙ sym (picks_more xs places i (Some digest) inside is)

pub none_stored : {X : Type 0} (xs : List X) (places : List ℕ) (i : ℕ) (stored : List X) (found : ℕ)
    → i < length places → take found stored ≡ picks xs (take i places) → slice_get xs (get_or places i 0) ≡ None
    → take found stored ≡ picks xs (take (i + 1) places)
none_stored xs places i stored found inside so_far is =
    so_far ∙ sym (append-nil (picks xs (take i places))) ∙ sym (picks_more xs places i None inside is)

-- every digest has 32 bytes
pub one_whole : (xs : List (List ℕ)) (places : List ℕ) (i : ℕ) (digest : List ℕ)
    → i < length places → AllByRecursion IsDigest (picks xs (take i places)) → slice_get xs (get_or places i 0) ≡ Some digest → IsDigest digest
    → AllByRecursion IsDigest (picks xs (take (i + 1) places))
one_whole xs places i digest inside so_far is long =
    subst (AllByRecursion IsDigest) (sym (picks_more xs places i (Some digest) inside is)) (All-push IsDigest (picks xs (take i places)) digest so_far long)

pub none_whole : (xs : List (List ℕ)) (places : List ℕ) (i : ℕ)
    → i < length places → AllByRecursion IsDigest (picks xs (take i places)) → slice_get xs (get_or places i 0) ≡ None
    → AllByRecursion IsDigest (picks xs (take (i + 1) places))
none_whole xs places i inside so_far is =
    subst (AllByRecursion IsDigest) (sym (append-nil (picks xs (take i places))) ∙ sym (picks_more xs places i None inside is)) so_far
