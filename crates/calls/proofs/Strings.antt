-- The strings of sound nodes, and where they stand in a proof.
use Rattle.std.proofs.Common.{◌≡◌, ℕ, ◌+◌, ◌<◌, ◌≤◌, true, ltb, List, [], ◌∷◌, ◌++◌, length, take, drop, is_some, Some, Ok, sym, refl, ap, ◌∙◌, subst, arith, length-append}
use Rattle.std.specs.List.{slice_get, AllByRecursion}
use Rattle.std.proofs.ByRecursion.{All-weaker}
use Rattle.std.proofs.lemmas.Slice.Eq.{bytes_eq-Decides}
use Rattle.std.proofs.lemmas.List.{take-append-drop, drop-drop, drop_at, take_at, length-drop, length-take-le}
use Rattle.std.proofs.lemmas.Bool.{lt-ltb, and_from}
use Rattle.refusal.specs.declared.Refusal.{Refusal}
use Rattle.refusal.specs.declared.Refusal.TheVariants.{SheetUnsound}
use Rattle.node.specs.Sizes.{IsDigest}
use Rattle.reader.specs.Parts.{part}
use Rattle.reader.specs.Views.{StringSeen}
use Rattle.reader.specs.Reading.{Position, bytes_left}
use Rattle.reader.specs.RoundTrips.{ReadBack}
use Rattle.reader.proofs.ReadingBack.{written_is_read_back_lem}
use Rattle.search.specs.Node.{Node}
use Rattle.search.specs.Judging.{Judging}
use Rattle.search.specs.Figure.{Sound, IsFigure}
use Rattle.search.specs.Honest.{string_in, strings_of, digests_of, HasDigests}
use Rattle.search.specs.Laws.{JudgesWell}
use Rattle.search.specs.Picks.{picks}
use Rattle.search.proofs.Places.{nth_bound, all_picks, picks_each}
use Rattle.calls.specs.Chain.{guard, found}
use Rattle.calls.specs.Sheets.{all_before, is_sound, sound_at}
use Rattle.calls.specs.Comparing.{goes_on_with}
use Rattle.calls.specs.Meaning.{HasSmallNodes}
use Rattle.calls.proofs.Chains.{onward_ok, onward_at, guard_at, found_ok, found_at, ok_same}
use Rattle.calls.proofs.Digests.{length_digests, all_digests}

-- every string has its kind
pub string_some : (digests : List (List ℕ)) (n : Node) → 4 ≤ length (string_in digests n)
string_some digests n = omega arith

all_before_lem : (place : ℕ) (ps : List ℕ) → AllByRecursion (λ p. p < place) ps → all_before place ps ≡ true
all_before_lem place [] h = refl
all_before_lem place (p ∷ ps) h = and_from (ltb p place) (all_before place ps) (lt-ltb p place h.0) (all_before_lem place ps h.1)

-- a sound node is found sound
pub sound_tested : {Q : Type 0} (judging : Judging Q) (place : ℕ) (n : Node) → Sound judging place n → is_sound judging place n ≡ true
sound_tested judging place n sound =
    and_from (is_some (judging.shape_of n.kind)) _ (ap is_some sound.judgeable.known) (and_from (judging.is_fit n.kind n.numbers) (all_before place n.successors) sound.judgeable.fit (all_before_lem place n.successors sound.before))

pub sound_there : {Q : Type 0} (judging : Judging Q) (nodes : List Node) (place : ℕ) (n : Node) → slice_get nodes place ≡ Some n → Sound judging place n → sound_at judging nodes place ≡ Ok n
sound_there judging nodes place n at sound =
    onward_at (found (slice_get nodes place) SheetUnsound) n _ (found_at (slice_get nodes place) SheetUnsound n at)
    ∙ onward_at (guard (is_sound judging place n) SheetUnsound) tt _ (guard_at (is_sound judging place n) SheetUnsound (sound_tested judging place n sound))

pub there_from_sound : {Q : Type 0} (judging : Judging Q) (nodes : List Node) (place : ℕ) (n : Node) → sound_at judging nodes place ≡ Ok n → slice_get nodes place ≡ Some n
there_from_sound judging nodes place n h =
    let first = onward_ok (found (slice_get nodes place) SheetUnsound) _ n h in
    let second = onward_ok (guard (is_sound judging place first.0) SheetUnsound) (λ _. Ok first.0) n first.2 in
    found_ok (slice_get nodes place) SheetUnsound first.0 first.1 ∙ ap Some (ok_same {E = Refusal} first.0 n second.2)

-- a proof goes on with a string if the string stands first in what is left
pub goes_on_lem : (p : Position) (string : List ℕ) → goes_on_with p string ≡ true → drop p.at p.bytes ≡ string ++ drop (p.at + length string) p.bytes
goes_on_lem p string h =
    let left = drop p.at p.bytes in
    sym (take-append-drop (length string) left)
    ∙ ap (λ (t : List ℕ). t ++ drop (length string) left) ((bytes_eq-Decides (take (length string) left) string).0 h)
    ∙ ap (λ (t : List ℕ). string ++ t) (drop-drop (length string) p.at p.bytes)

pub goes_on_from : (p : Position) (string rest : List ℕ) → drop p.at p.bytes ≡ string ++ rest → goes_on_with p string ≡ true
goes_on_from p string rest h =
    (bytes_eq-Decides (part p.bytes p.at (length string)) string).1 (ap (take (length string)) h ∙ take_at string rest (length string) refl)

-- what is left after it, and how many bytes
pub rest_after : (p : Position) (string rest : List ℕ) → drop p.at p.bytes ≡ string ++ rest → drop (p.at + length string) p.bytes ≡ rest
rest_after p string rest h = sym (drop-drop (length string) p.at p.bytes) ∙ ap (drop (length string)) h ∙ drop_at string rest (length string) refl

pub bytes_taken : (p : Position) (string rest : List ℕ) → drop p.at p.bytes ≡ string ++ rest → length string ≤ bytes_left p
bytes_taken p string rest h = omega (arith, length-drop p.at p.bytes, ap length h, length-append string rest)

-- the strings of nodes, one after another
pub strings_more : (digests : List (List ℕ)) (n : Node) (visited : List Node) (left rest : List ℕ) → left ≡ string_in digests n ++ rest → rest ≡ strings_of digests visited → left ≡ strings_of digests (n ∷ visited)
strings_more digests n visited left rest first later = first ∙ ap (λ (t : List ℕ). string_in digests n ++ t) later

-- the string of a figure's node that stands in a proof is read back
module _ {Q : Type 0} (judging : Judging Q) (hash : List ℕ → List ℕ) (figure : List Node) (well : JudgesWell judging) (small : HasSmallNodes judging) (are : HasDigests hash) (is : IsFigure judging figure) where
  pub successors_there : (place : ℕ) (n : Node) → slice_get figure place ≡ Some n → AllByRecursion (λ p. p < length (digests_of hash figure)) n.successors
  successors_there place n at =
      All-weaker (λ p. p < place) (λ p. p < length (digests_of hash figure)) (λ p h. omega (arith, nth_bound figure place n at, length_digests hash figure)) n.successors (is.sound place n at).before

  pub read_node : (place : ℕ) (n : Node) (at : slice_get figure place ≡ Some n) (p : Position) (rest : List ℕ)
      → drop p.at p.bytes ≡ string_in (digests_of hash figure) n ++ rest
      → (seen : StringSeen) × ReadBack p (is.sound place n at).shape n.kind n.numbers (picks (digests_of hash figure) n.successors) seen
  read_node place n at p rest h =
      let sound = is.sound place n at in
      let digests = digests_of hash figure in
      let string = string_in digests n in
      let left = bytes_taken p string rest h in
      let front = take p.at p.bytes in
      let long : length front ≡ p.at = length-take-le p.at p.bytes (omega (arith, left, string_some digests n)) in
      let whole : front ++ (string ++ rest) ≡ p.bytes = ap (λ (t : List ℕ). front ++ t) (sym h) ∙ take-append-drop p.at p.bytes in
      let back = written_is_read_back_lem front rest sound.shape n.kind n.numbers (picks digests n.successors) (small.small_kinds n.kind sound.shape sound.judgeable.known) (small.small_numbers n.kind n.numbers sound.shape sound.judgeable) (all_picks IsDigest digests n.successors (all_digests hash are figure)) (sym sound.judgeable.counted) (sym (picks_each digests n.successors (successors_there place n at) ∙ sound.joined)) in
      let same : record { bytes = front ++ (string ++ rest); at = length front } ≡ p = λ i. record { bytes = whole i; at = long i } in
      (back.0, subst (λ (t : Position). ReadBack t sound.shape n.kind n.numbers (picks digests n.successors) back.0) same back.1)
