-- Four bytes and the integer that they represent, both ways.
use Rattle.std.proofs.Common.{◌≡◌, ℕ, ◌+◌, ◌*◌, ◌/◌, ◌%◌, ◌^◌, ◌<◌, [], ◌∷◌, ℤ, pos, negsuc, sym, refl, ap, ◌∙◌, mod-eq_of_lt, arith, lit<, w32, SFits, of_z}
use Rattle.std.proofs.lemmas.Nat.{shr-shr, div-add-mod', div_below, shr_high, mod_low}
use Rattle.std.proofs.lemmas.Int.{to_z-of_z, of_z-to_z}
use Rattle.node.specs.Xdr.{xdr_uint, twos_complement, xdr_int, uint_of, signed_of, int_of}

pub uint_back : (n : ℕ) → n < 2 ^ 32 → uint_of (xdr_uint n) ≡ n
uint_back n small =
    let third : n / 2 ^ 8 / 2 ^ 8 ≡ n / 2 ^ 16 = shr-shr n 8 8 in
    let fourth : n / 2 ^ 16 / 2 ^ 8 ≡ n / 2 ^ 24 = shr-shr n 16 8 in
    let top : n / 2 ^ 24 < 256 = div_below n (2 ^ 24) 256 (lit< tt) small in
    let d0 = div-add-mod' n 256 in
    let d1 = div-add-mod' (n / 2 ^ 8) 256 in
    let d2 = div-add-mod' (n / 2 ^ 16) 256 in
    let d3 : n / 2 ^ 24 % 256 ≡ n / 2 ^ 24 = mod-eq_of_lt top in
    omega (arith, third, fourth, d0, d1, d2, d3)

pub bytes_back : (a b c d : ℕ) → a < 256 → b < 256 → c < 256 → d < 256
    → xdr_uint (a * 2 ^ 24 + b * 2 ^ 16 + c * 2 ^ 8 + d) ≡ a ∷ b ∷ c ∷ d ∷ []
bytes_back a b c d pa pb pc pd =
    let n : ℕ = a * 2 ^ 24 + b * 2 ^ 16 + c * 2 ^ 8 + d in
    let is : n ≡ ((a * 2 ^ 8 + b) * 2 ^ 8 + c) * 2 ^ 8 + d = omega arith in
    let e1 : n / 2 ^ 8 ≡ (a * 2 ^ 8 + b) * 2 ^ 8 + c = ap (λ t. t / 2 ^ 8) is ∙ shr_high ((a * 2 ^ 8 + b) * 2 ^ 8 + c) 8 d pd in
    let e2 : n / 2 ^ 16 ≡ a * 2 ^ 8 + b = sym (shr-shr n 8 8) ∙ ap (λ t. t / 2 ^ 8) e1 ∙ shr_high (a * 2 ^ 8 + b) 8 c pc in
    let e3 : n / 2 ^ 24 ≡ a = sym (shr-shr n 16 8) ∙ ap (λ t. t / 2 ^ 8) e2 ∙ shr_high a 8 b pb in
    let r0 : n % 256 ≡ d = ap (λ t. t % 256) is ∙ mod_low ((a * 2 ^ 8 + b) * 2 ^ 8 + c) 8 d pd in
    let r1 : n / 2 ^ 8 % 256 ≡ c = ap (λ t. t % 256) e1 ∙ mod_low (a * 2 ^ 8 + b) 8 c pc in
    let r2 : n / 2 ^ 16 % 256 ≡ b = ap (λ t. t % 256) e2 ∙ mod_low a 8 b pb in
    let r3 : n / 2 ^ 24 % 256 ≡ a = ap (λ t. t % 256) e3 ∙ mod-eq_of_lt pa in
    ap (λ t. t ∷ n / 2 ^ 16 % 256 ∷ n / 2 ^ 8 % 256 ∷ n % 256 ∷ []) r3
    ∙ ap (λ t. a ∷ t ∷ n / 2 ^ 8 % 256 ∷ n % 256 ∷ []) r2
    ∙ ap (λ t. a ∷ b ∷ t ∷ n % 256 ∷ []) r1
    ∙ ap (λ t. a ∷ b ∷ c ∷ t ∷ []) r0

pub uint_below : (a b c d : ℕ) → a < 256 → b < 256 → c < 256 → d < 256
    → a * 2 ^ 24 + b * 2 ^ 16 + c * 2 ^ 8 + d < 2 ^ 32
uint_below a b c d pa pb pc pd = omega arith

twos_bits : (z : ℤ) → twos_complement z ≡ of_z w32 z
twos_bits (pos n) = refl
twos_bits (negsuc n) = refl

-- two's complement of a number of 32 bits, and back
pub signed_back : (z : ℤ) → SFits w32 z → signed_of (twos_complement z) ≡ z
signed_back z fits = ap signed_of (twos_bits z) ∙ to_z-of_z w32 z fits

pub twos_back : (n : ℕ) → n < 2 ^ 32 → twos_complement (signed_of n) ≡ n
twos_back n small = twos_bits (signed_of n) ∙ of_z-to_z w32 n small

twos_below : (z : ℤ) → SFits w32 z → twos_complement z < 2 ^ 32
twos_below (pos n) fits = omega (arith, fits.sfits)
twos_below (negsuc n) fits = omega arith

pub int_back : (z : ℤ) → SFits w32 z → int_of (xdr_int z) ≡ z
int_back z fits = ap signed_of (uint_back (twos_complement z) (twos_below z fits)) ∙ signed_back z fits

pub int_bytes_back : (a b c d : ℕ) → a < 256 → b < 256 → c < 256 → d < 256
    → xdr_int (int_of (a ∷ b ∷ c ∷ d ∷ [])) ≡ a ∷ b ∷ c ∷ d ∷ []
int_bytes_back a b c d pa pb pc pd =
    ap xdr_uint (twos_back (uint_of (a ∷ b ∷ c ∷ d ∷ [])) (uint_below a b c d pa pb pc pd)) ∙ bytes_back a b c d pa pb pc pd
