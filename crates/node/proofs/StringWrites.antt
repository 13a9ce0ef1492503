-- A whole string written part by part.
use Rattle.std.proofs.Common.{◌≡◌, ℕ, ◌+◌, ◌<◌, ◌≤◌, true, cond, List, ◌++◌, length, ℤ, Ok, Err, Result, sym, ap, ◌∙◌, append_assoc, arith, length-append}
use Rattle.std.proofs.lemmas.Bool.{cond-true, cond-false, le-leb, lt-leb, and_from}
use Rattle.node.specs.declared.writing.NotWritten.{NotWritten}
use Rattle.node.specs.declared.writing.NotWritten.TheVariants as not_written
use Rattle.node.specs.Strings.{string_of}
use Rattle.node.specs.Writing.{put_at, has_room, written, is_string, written_string, written_string_end}
use Rattle.node.proofs.Buffers.{put_more, written_with_room, written_without_room}

pub three_puts : (buffer : List ℕ) (at next last : ℕ) (front mid back : List ℕ) → at ≤ length buffer → next ≡ at + length front → last ≡ next + length mid
    → put_at (put_at (put_at buffer at front) next mid) last back ≡ put_at buffer at (front ++ (mid ++ back))
three_puts buffer at next last front mid back within n l =
    ap (λ t. put_at t last back) (put_more buffer at next front mid within n)
    ∙ put_more buffer at last (front ++ mid) back within (omega (arith, length-append front mid))
    ∙ ap (put_at buffer at) (append_assoc front mid back)

few : (numbers : List ℤ) (digests : List (List ℕ)) → length numbers ≤ 4 → length digests ≤ 3 → is_string numbers digests ≡ true
few numbers digests n d = and_from _ _ (le-leb (length numbers) 4 n) (le-leb (length digests) 3 d)

pub string_with_room : (buffer : List ℕ) (at kind : ℕ) (numbers : List ℤ) (digests : List (List ℕ)) → length numbers ≤ 4 → length digests ≤ 3
    → at + length (string_of kind numbers digests) ≤ length buffer
    → put_at buffer at (string_of kind numbers digests) ≡ written_string buffer at kind numbers digests
string_with_room buffer at kind numbers digests n d room =
    written_with_room buffer at (string_of kind numbers digests) room
    ∙ sym (cond-true (is_string numbers digests) (written buffer at (string_of kind numbers digests)) buffer (few numbers digests n d))

pub string_without_room : (buffer : List ℕ) (at kind : ℕ) (numbers : List ℤ) (digests : List (List ℕ)) → length numbers ≤ 4 → length digests ≤ 3
    → length buffer < at + length (string_of kind numbers digests)
    → buffer ≡ written_string buffer at kind numbers digests
string_without_room buffer at kind numbers digests n d room =
    written_without_room buffer at (string_of kind numbers digests) room
    ∙ sym (cond-true (is_string numbers digests) (written buffer at (string_of kind numbers digests)) buffer (few numbers digests n d))

abbrev ended : List ℕ → ℕ → ℕ → List ℤ → List (List ℕ) → Result ℕ NotWritten
ended buffer at kind numbers digests =
    cond (has_room buffer at (string_of kind numbers digests)) (Ok (at + length (string_of kind numbers digests))) (Err not_written.NoRoom)

end_few : (buffer : List ℕ) (at kind : ℕ) (numbers : List ℤ) (digests : List (List ℕ)) → length numbers ≤ 4 → length digests ≤ 3
    → ended buffer at kind numbers digests ≡ written_string_end buffer at kind numbers digests
end_few buffer at kind numbers digests n d =
    sym (cond-true (is_string numbers digests) (ended buffer at kind numbers digests) (Err not_written.TooManyParts) (few numbers digests n d))

pub string_end_with_room : (buffer : List ℕ) (at kind : ℕ) (numbers : List ℤ) (digests : List (List ℕ)) → length numbers ≤ 4 → length digests ≤ 3
    → at + length (string_of kind numbers digests) ≤ length buffer
    → Ok (at + length (string_of kind numbers digests)) ≡ written_string_end buffer at kind numbers digests
string_end_with_room buffer at kind numbers digests n d room =
    let bytes = string_of kind numbers digests in
    sym (cond-true (has_room buffer at bytes) (Ok (at + length bytes)) (Err not_written.NoRoom) (le-leb (at + length bytes) (length buffer) room))
    ∙ end_few buffer at kind numbers digests n d

pub string_end_without_room : (buffer : List ℕ) (at kind : ℕ) (numbers : List ℤ) (digests : List (List ℕ)) → length numbers ≤ 4 → length digests ≤ 3
    → length buffer < at + length (string_of kind numbers digests)
    → Err not_written.NoRoom ≡ written_string_end buffer at kind numbers digests
string_end_without_room buffer at kind numbers digests n d room =
    let bytes = string_of kind numbers digests in
    sym (cond-false (has_room buffer at bytes) (Ok (at + length bytes)) (Err not_written.NoRoom) (lt-leb (at + length bytes) (length buffer) room))
    ∙ end_few buffer at kind numbers digests n d
