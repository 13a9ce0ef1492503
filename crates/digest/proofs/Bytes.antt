-- Lists whose elements are bytes.
use Rattle.std.proofs.Common.{ℕ, zero, suc, ◌%◌, ◌<◌, List, [], ◌∷◌, ◌++◌, get_or, lit<}
use Rattle.std.specs.List.{AllByRecursion}
use Rattle.std.proofs.lemmas.Nat.{mod_below}
use Rattle.std.proofs.ByRecursion.{All-append}

abbrev pub AllBytes : List ℕ → Type 0
AllBytes xs = AllByRecursion (λ (b : ℕ). b < 256) xs

byte_at : (xs : List ℕ) → AllBytes xs → (place : ℕ) → get_or xs place 0 < 256
byte_at [] all place = lit< tt
byte_at (x ∷ xs) all zero = all.0
byte_at (x ∷ xs) all (suc place) = byte_at xs all.1 place

joins : (xs ys : List ℕ) → AllBytes xs → AllBytes ys → AllBytes (xs ++ ys)
joins = All-append (λ (b : ℕ). b < 256)

-- A word in four bytes.
pub four_bytes_lem : (a b c d : ℕ) → AllBytes (a % 256 ∷ b % 256 ∷ c % 256 ∷ d % 256 ∷ [])
four_bytes_lem a b c d =
    (mod_below a 256 (lit< tt), (mod_below b 256 (lit< tt), (mod_below c 256 (lit< tt), (mod_below d 256 (lit< tt), tt))))

-- Eight words in a row.
pub eight_words : (a b c d e f g h : List ℕ) → AllBytes a → AllBytes b → AllBytes c → AllBytes d → AllBytes e → AllBytes f → AllBytes g → AllBytes h → (place : ℕ) → get_or (a ++ (b ++ (c ++ (d ++ (e ++ (f ++ (g ++ h))))))) place 0 < 256
eight_words a b c d e f g h pa pb pc pd pe pf pg ph =
    let fh = joins f (g ++ h) pf (joins g h pg ph) in
    let dh = joins d (e ++ (f ++ (g ++ h))) pd (joins e (f ++ (g ++ h)) pe fh) in
    let bh = joins b (c ++ (d ++ (e ++ (f ++ (g ++ h))))) pb (joins c (d ++ (e ++ (f ++ (g ++ h)))) pc dh) in
    let ah = joins a (b ++ (c ++ (d ++ (e ++ (f ++ (g ++ h)))))) pa bh in
    byte_at (a ++ (b ++ (c ++ (d ++ (e ++ (f ++ (g ++ h))))))) ah
