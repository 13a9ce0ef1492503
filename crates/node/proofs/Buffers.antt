-- What writes to a part of a buffer leave of it.
use Rattle.std.proofs.Common.{◌≡◌, ℕ, ◌+◌, ◌-◌, ◌<◌, ◌≤◌, List, [], ◌++◌, length, take, drop, Ok, Err, sym, refl, ap, ◌∙◌, append_assoc, arith, length-append}
use borrow.Rule.Slice.PartMut.{put_mid}
use Rattle.std.proofs.lemmas.List.{take_at, drop_at, drop-drop, length-take-le, length-drop, take-append-drop}
use Rattle.std.proofs.lemmas.Bool.{cond-true, cond-false, le-leb, lt-leb}
use Rattle.node.specs.Writing.{put_at, has_room, written, written_end}

-- a part overwritten by as many bytes
pub put_part : (buffer : List ℕ) (at : ℕ) (last bytes : List ℕ) → last ≡ bytes
    → put_mid at (at + length bytes - at) buffer last ≡ put_at buffer at bytes
put_part buffer at last bytes same =
    let size : at + (at + length bytes - at) ≡ at + length bytes = omega arith in
    ap (λ t. take at buffer ++ (t ++ drop (at + length bytes - at) (drop at buffer))) same
    ∙ ap (λ t. take at buffer ++ (bytes ++ t)) (drop-drop (at + length bytes - at) at buffer ∙ ap (λ n. drop n buffer) size)

pub put_length : (buffer : List ℕ) (at : ℕ) (bytes : List ℕ) → at + length bytes ≤ length buffer
    → length (put_at buffer at bytes) ≡ length buffer
put_length buffer at bytes room =
    length-append (take at buffer) (bytes ++ drop (at + length bytes) buffer)
    ∙ omega (arith, length-take-le at buffer (omega arith), length-append bytes (drop (at + length bytes) buffer), length-drop (at + length bytes) buffer)

-- nothing written
pub put_none : (buffer : List ℕ) (at : ℕ) → buffer ≡ put_at buffer at []
put_none buffer at =
    let end : at + 0 ≡ at = omega arith in
    sym (take-append-drop at buffer) ∙ ap (λ n. take at buffer ++ drop n buffer) (sym end)

-- bytes written behind bytes written
pub put_more : (buffer : List ℕ) (at next : ℕ) (front back : List ℕ) → at ≤ length buffer → next ≡ at + length front
    → put_at (put_at buffer at front) next back ≡ put_at buffer at (front ++ back)
put_more buffer at next front back within is =
    let rest = drop (at + length front) buffer in
    let joined : take at buffer ++ (front ++ rest) ≡ (take at buffer ++ front) ++ rest =
    sym (append_assoc (take at buffer) front rest) in
    let long : length (take at buffer ++ front) ≡ next =
    length-append (take at buffer) front ∙ omega (arith, length-take-le at buffer within) in
    let before : take next (put_at buffer at front) ≡ take at buffer ++ front =
    ap (take next) joined ∙ take_at (take at buffer ++ front) rest next long in
    let behind : drop next (put_at buffer at front) ≡ rest =
    ap (drop next) joined ∙ drop_at (take at buffer ++ front) rest next long in
    let size : at + length front + length back ≡ at + length (front ++ back) =
    omega (arith, length-append front back) in
    let after : drop (next + length back) (put_at buffer at front) ≡ drop (at + length (front ++ back)) buffer =
    sym (drop-drop (length back) next (put_at buffer at front)) ∙ ap (drop (length back)) behind
    ∙ drop-drop (length back) (at + length front) buffer ∙ ap (λ n. drop n buffer) size in
    ap (λ t. t ++ (back ++ drop (next + length back) (put_at buffer at front))) before
    ∙ ap (λ t. (take at buffer ++ front) ++ (back ++ t)) after
    ∙ append_assoc (take at buffer) front (back ++ drop (at + length (front ++ back)) buffer)
    ∙ ap (λ t. take at buffer ++ t) (sym (append_assoc front back (drop (at + length (front ++ back)) buffer)))

-- the outcomes with room and without
pub written_with_room : (buffer : List ℕ) (at : ℕ) (bytes : List ℕ) → at + length bytes ≤ length buffer
    → put_at buffer at bytes ≡ written buffer at bytes
written_with_room buffer at bytes room =
    sym (cond-true (has_room buffer at bytes) (put_at buffer at bytes) buffer (le-leb (at + length bytes) (length buffer) room))

pub end_with_room : (buffer : List ℕ) (at : ℕ) (bytes : List ℕ) → at + length bytes ≤ length buffer
    → Ok (at + length bytes) ≡ written_end buffer at bytes
end_with_room buffer at bytes room =
    sym (cond-true (has_room buffer at bytes) (Ok (at + length bytes)) (Err (record {})) (le-leb (at + length bytes) (length buffer) room))

pub written_without_room : (buffer : List ℕ) (at : ℕ) (bytes : List ℕ) → length buffer < at + length bytes
    → buffer ≡ written buffer at bytes
written_without_room buffer at bytes room =
    sym (cond-false (has_room buffer at bytes) (put_at buffer at bytes) buffer (lt-leb (at + length bytes) (length buffer) room))

pub end_without_room : (buffer : List ℕ) (at : ℕ) (bytes : List ℕ) → length buffer < at + length bytes
    → Err (record {}) ≡ written_end buffer at bytes
end_without_room buffer at bytes room =
    sym (cond-false (has_room buffer at bytes) (Ok (at + length bytes)) (Err (record {})) (lt-leb (at + length bytes) (length buffer) room))

-- the bytes that were written, read from the buffer again
pub put_shows : (buffer : List ℕ) (at : ℕ) (bytes : List ℕ) → at ≤ length buffer
    → take (length bytes) (drop at (put_at buffer at bytes)) ≡ bytes
put_shows buffer at bytes within =
    ap (take (length bytes)) (drop_at (take at buffer) (bytes ++ drop (at + length bytes) buffer) at (length-take-le at buffer within))
    ∙ take_at bytes (drop (at + length bytes) buffer) (length bytes) refl

-- what stands before them stays
pub put_before : (buffer : List ℕ) (at : ℕ) (bytes : List ℕ) → at ≤ length buffer → take at (put_at buffer at bytes) ≡ take at buffer
put_before buffer at bytes within =
    take_at (take at buffer) (bytes ++ drop (at + length bytes) buffer) at (length-take-le at buffer within)
