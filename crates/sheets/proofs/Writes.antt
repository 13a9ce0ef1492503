-- A node's string written with the digests that were gathered.
use Rattle.std.proofs.Common.{◌≡◌, ℕ, ◌+◌, ◌≤◌, Bool, true, false, cond, List, length, take, ℤ, Ok, Err, Result, sym, refl, ap, ◌∙◌, ⊎_elim, arith}
use Rattle.std.specs.List.{AllByRecursion}
use Rattle.std.specs.Result.{MatchResult, IsErrAnd}
use Rattle.std.proofs.lemmas.List.{length-take}
use Rattle.std.proofs.lemmas.Bool.{cases_Bool, cond-true, cond-false, le-leb, and_from}
use Rattle.node.specs.declared.writing.NoRoom.{NoRoom}
use Rattle.node.specs.declared.writing.NotWritten.{NotWritten}
use Rattle.node.specs.declared.writing.NotWritten.TheVariants as not_written
use Rattle.node.specs.Sizes.{IsDigest}
use Rattle.node.specs.Strings.{string_of}
use Rattle.node.specs.Writing.{put_at, has_room, is_string, written, written_end, written_string, written_string_end}
use Rattle.node.proofs.Buffers.{put_shows}
use Rattle.node.proofs.ShortStrings.{strings_are_short_lem}
use Rattle.calls.proofs.Chains.{ok_same, not_ok}
use Rattle.search.specs.Picks.{picks}
use Rattle.search.specs.Honest.{string_in}
use Rattle.search.proofs.Places.{length_picks}
use Rattle.sheets.specs.declared.reading.SheetNode.{SheetNode}
use Rattle.sheets.specs.Nodes.{node_of, longest_string}

module _ (buffer : List ℕ) (at kind : ℕ) (numbers : List ℤ) (digests : List (List ℕ)) (four : length numbers ≤ 4) (three : length digests ≤ 3) where
  abbrev bytes : List ℕ
  bytes = string_of kind numbers digests

  whole : is_string numbers digests ≡ true
  whole = and_from _ _ (le-leb (length numbers) 4 four) (le-leb (length digests) 3 three)

  ended : written_string_end buffer at kind numbers digests ≡ cond (has_room buffer at bytes) (Ok (at + length bytes)) (Err not_written.NoRoom)
  ended = cond-true (is_string numbers digests) (cond (has_room buffer at bytes) (Ok (at + length bytes)) (Err not_written.NoRoom)) (Err not_written.TooManyParts) whole

  pub as_written : written_string buffer at kind numbers digests ≡ written buffer at bytes
  as_written = cond-true (is_string numbers digests) (written buffer at bytes) buffer whole

  with_room : (room : Bool) (end last : ℕ) → Ok end ≡ cond room (Ok last) (Err not_written.NoRoom) → ◌≡◌ {A = Result ℕ NoRoom} (Ok end) (cond room (Ok last) (Err (record {})))
  with_room true end last is = let e : end ≡ last = cc in ap Ok e
  with_room false end last is = absurd (let z : ◌≡◌ {A = ℕ} 0 1 = cc in omega arith)

  without_room : (room : Bool) (refusal : NotWritten) (last : ℕ) → Err refusal ≡ cond room (Ok last) (Err not_written.NoRoom) → ◌≡◌ {A = Result ℕ NoRoom} (Err (record {})) (cond room (Ok last) (Err (record {})))
  without_room true refusal last is = absurd (let z : ◌≡◌ {A = ℕ} 0 1 = cc in omega arith)
  without_room false refusal last is = refl

  ends : (end : ℕ) → Ok end ≡ written_string_end buffer at kind numbers digests → Ok end ≡ written_end buffer at bytes
  ends end is = with_room (has_room buffer at bytes) end (at + length bytes) (is ∙ ended)

  no_room : (refusal : NotWritten) → Err refusal ≡ written_string_end buffer at kind numbers digests → Err (record {}) ≡ written_end buffer at bytes
  no_room refusal is = without_room (has_room buffer at bytes) refusal (at + length bytes) (is ∙ ended)

  -- what writing answers, but for why there is no room
  pub answered : (m : Result ℕ NotWritten) (r : Result ℕ NoRoom) (P : NotWritten → NoRoom → Type 0)
      → MatchResult m (λ end. r ≡ Ok end) (λ refusal. IsErrAnd r (P refusal)) → m ≡ written_string_end buffer at kind numbers digests → r ≡ written_end buffer at bytes
  answered (Ok end) r P told is = told ∙ ends end is
  answered (Err refusal) (Ok end) P told is = absurd told
  answered (Err refusal) (Err e) P told is = no_room refusal is

-- what was written from the first place on is read back
pub read_back : (buffer string out : List ℕ) (end : ℕ) → Ok end ≡ written_end buffer 0 string → out ≡ written buffer 0 string → take end out ≡ string
read_back buffer string out end ends after =
    ⊎_elim
    (λ t.
    let size : end ≡ length string = ok_same end (0 + length string) (ends ∙ cond-true _ _ _ t) ∙ omega arith in
    (λ i. take (size i) ((after ∙ cond-true (has_room buffer 0 string) (put_at buffer 0 string) buffer t) i)) ∙ put_shows buffer 0 string (omega arith))
    (λ f. absurd (not_ok (record {}) end (sym (ends ∙ cond-false _ _ _ f))))
    (cases_Bool (has_room buffer 0 string))

-- a node has the parts of a string
module _ (digests : List (List ℕ)) (node : SheetNode) (four : length node.numbers ≡ 4) (three : length node.successors ≡ 3) where
  pub few_numbers_lem : length (node_of node).numbers ≤ 4
  few_numbers_lem = omega (arith, length-take node.shape.numbers node.numbers, four)

  pub few_digests : length (picks digests (node_of node).successors) ≤ 3
  few_digests = omega (arith, length_picks digests (node_of node).successors, length-take node.shape.successors node.successors, three)

  pub short : AllByRecursion IsDigest (picks digests (node_of node).successors) → length (string_in digests (node_of node)) ≤ longest_string
  short all = strings_are_short_lem node.kind (node_of node).numbers (picks digests (node_of node).successors) few_numbers_lem few_digests all
