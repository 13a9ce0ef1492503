-- Hex of 32 bytes.
use Rattle.std.proofs.Common.{◌≡◌, ℕ, ◌+◌, ◌*◌, ◌<◌, ◌≤◌, List, [], ◌∷◌, ◌++◌, length, get_or, take, set, is_some, Some, None, sym, ap, ◌∙◌, arith}
use Rattle.std.proofs.lemmas.List.{take_all, take_more_set}
use Rattle.std.proofs.lemmas.Bool.{cond-true, cond-false, eq-eqb, false≢true, ne_eqb}
use Rattle.std.specs.Option.{option_map}
use Rattle.hex_text.specs.Hex.{bytes_in, bytes_of, pair_value}
use Rattle.hex_text.specs.Digest.{digest_of, if32}
use Rattle.hex_text.proofs.Pairs.{byte_at, bytes_in_lem, bytes_more, length_bytes_in, none_decoded}

pub no_digest : (text : List ℕ) → None ≡ option_map length (bytes_of text) → None ≡ digest_of text
no_digest text e = sym (ap if32 (none_decoded text e))

pub other_length : (text : List ℕ) (n : ℕ) → Some n ≡ option_map length (bytes_of text) → (n ≡ 32 → ⊥) → None ≡ digest_of text
other_length text n e ne =
    let long = length_bytes_in text n e in
    sym (ap if32 (bytes_in_lem text n e) ∙ cond-false _ _ _ (ne_eqb (length (bytes_in text)) 32 (λ h. ne (sym long ∙ h))))

pub byte_set : (text bytes : List ℕ) (n i byte : ℕ) → Some n ≡ option_map length (bytes_of text) → i < n → i < length bytes → Some byte ≡ pair_value (get_or text (2 * i) 0) (get_or text (2 * i + 1) 0) → take i bytes ≡ take i (bytes_in text) → take (i + 1) (set bytes i byte) ≡ take (i + 1) (bytes_in text)
byte_set text bytes n i byte e h inside here was =
    take_more_set bytes i byte inside
    ∙ (ap (λ ys. ys ++ byte ∷ []) was
    ∙ bytes_more [] text n i byte e h here)

pub whole_digest : (text bytes : List ℕ) (n i : ℕ) → Some n ≡ option_map length (bytes_of text) → n ≡ 32 → n ≤ i → length bytes ≡ 32 → take i bytes ≡ take i (bytes_in text) → Some bytes ≡ digest_of text
whole_digest text bytes n i e is32 past long was =
    let size = length_bytes_in text n e in
    let same : bytes ≡ bytes_in text = sym (take_all i bytes (omega arith)) ∙ (was ∙ take_all i (bytes_in text) (omega arith)) in
    ap Some same ∙ sym (ap if32 (bytes_in_lem text n e) ∙ cond-true _ _ _ (eq-eqb (length (bytes_in text)) 32 (size ∙ is32)))

pub never_missing : (text : List ℕ) (n i : ℕ) → Some n ≡ option_map length (bytes_of text) → i < n → None ≡ pair_value (get_or text (2 * i) 0) (get_or text (2 * i + 1) 0) → ⊥
never_missing text n i e h none = false≢true (ap is_some (none ∙ byte_at text n i e h))
