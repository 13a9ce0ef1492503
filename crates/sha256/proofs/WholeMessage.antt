-- A message by its whole blocks, then by what is left of it and the padding.
use Rattle.std.proofs.Common.{◌≡◌, ℕ, ◌+◌, ◌-◌, ◌*◌, ◌/◌, ◌%◌, ◌≤◌, List, ◌++◌, length, drop, replicate, sym, refl, ap, ◌∙◌, arith}
use Rattle.std.proofs.lemmas.List.{length-append, length-replicate, length-drop, drop-append-le}
use Rattle.sha256.specs.Constants.{H⁰}
use Rattle.sha256.specs.Standard.{after, padding, joined, sha256, eight_bytes}
use Rattle.sha256.specs.declared.words.Words.{Words}
use Rattle.sha256.proofs.BlockSteps.{after_front, after_rest}

pub length_padding : (n : ℕ) → length (padding n) ≡ (119 - n % 64) % 64 + 9
unfolding padding
length_padding n =
    let zeros = length-replicate {A = ℕ} ((119 - n % 64) % 64) 0 in
    let whole = length-append (replicate {A = ℕ} ((119 - n % 64) % 64) 0) (eight_bytes (8 * n)) in
    omega arith

blocks_in_all : (n filler : ℕ) → filler ≡ (119 - n % 64) % 64 → (n + (filler + 9)) / 64 ≡ n / 64 + (n % 64 + 72) / 64
blocks_in_all n filler is = omega arith

pub whole_message : (message rest : List ℕ) (before last : Words) → rest ≡ drop (64 * (length message / 64)) message → before ≡ after H⁰ message (length message / 64) → last ≡ after before (rest ++ padding (length message)) ((length rest + 72) / 64) → joined last ≡ sha256 message
unfolding sha256
whole_message message rest before last rest-is before-is last-is =
    let n = length message in
    let k = n / 64 in
    let pad = padding n in
    let within : 64 * k ≤ n = omega arith in
    let rest-long : length rest ≡ n % 64 = ap length rest-is ∙ length-drop (64 * k) message ∙ (omega arith) in
    let behind : rest ++ pad ≡ drop (64 * k) (message ++ pad) =
    ap (λ (xs : List ℕ). xs ++ pad) rest-is ∙ sym (drop-append-le (64 * k) message pad within) in
    let front : before ≡ after H⁰ (message ++ pad) k = before-is ∙ sym (after_front H⁰ message pad k within) in
    let total : length (message ++ pad) ≡ n + ((119 - n % 64) % 64 + 9) =
    length-append message pad ∙ ap (λ (j : ℕ). n + j) (length_padding n) in
    let count : k + (length rest + 72) / 64 ≡ length (message ++ pad) / 64 =
    ap (λ (j : ℕ). k + (j + 72) / 64) rest-long ∙ sym (blocks_in_all n ((119 - n % 64) % 64) refl) ∙
    ap (λ (j : ℕ). j / 64) (sym total) in
    ap joined
    (last-is ∙ ap (λ (v : Words). after v (rest ++ pad) ((length rest + 72) / 64)) front ∙
    ap (λ (xs : List ℕ). after (after H⁰ (message ++ pad) k) xs ((length rest + 72) / 64)) behind ∙
    after_rest H⁰ (message ++ pad) k ((length rest + 72) / 64) ∙ ap (after H⁰ (message ++ pad)) count)
