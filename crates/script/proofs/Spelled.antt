-- A word by its bytes.
use Rattle.std.proofs.Common.{◌≡◌, ℕ, List, [], ◌∷◌, length, get_or, Some, sym, ap, arith}
use Rattle.script.specs.declared.command.HashName.TheVariants.{Sha256, Blake2s}
use Rattle.script.specs.Command.{hash_named}

pub six : (w : List ℕ) (a b c d e f : ℕ) → length w ≡ 6 → get_or w 0 0 ≡ a → get_or w 1 0 ≡ b → get_or w 2 0 ≡ c → get_or w 3 0 ≡ d → get_or w 4 0 ≡ e → get_or w 5 0 ≡ f → w ≡ a ∷ b ∷ c ∷ d ∷ e ∷ f ∷ []
six (p ∷ q ∷ r ∷ s ∷ t ∷ u ∷ []) a b c d e f h ea eb ec ed ee ef = rw (ea, eb, ec, ed, ee, ef)
six _ a b c d e f h ea eb ec ed ee ef = absurd (omega arith)

pub seven : (w : List ℕ) (a b c d e f g : ℕ) → length w ≡ 7 → get_or w 0 0 ≡ a → get_or w 1 0 ≡ b → get_or w 2 0 ≡ c → get_or w 3 0 ≡ d → get_or w 4 0 ≡ e → get_or w 5 0 ≡ f → get_or w 6 0 ≡ g → w ≡ a ∷ b ∷ c ∷ d ∷ e ∷ f ∷ g ∷ []
seven (p ∷ q ∷ r ∷ s ∷ t ∷ u ∷ v ∷ []) a b c d e f g h ea eb ec ed ee ef eg = rw (ea, eb, ec, ed, ee, ef, eg)
seven _ a b c d e f g h ea eb ec ed ee ef eg = absurd (omega arith)

pub sha256_named : (w : List ℕ) → length w ≡ 6 → get_or w 0 0 ≡ 115 → get_or w 1 0 ≡ 104 → get_or w 2 0 ≡ 97 → get_or w 3 0 ≡ 50 → get_or w 4 0 ≡ 53 → get_or w 5 0 ≡ 54 → Some Sha256 ≡ hash_named w
sha256_named w h ea eb ec ed ee ef = ap hash_named (sym (six w _ _ _ _ _ _ h ea eb ec ed ee ef))

pub blake2s_named : (w : List ℕ) → length w ≡ 7 → get_or w 0 0 ≡ 98 → get_or w 1 0 ≡ 108 → get_or w 2 0 ≡ 97 → get_or w 3 0 ≡ 107 → get_or w 4 0 ≡ 101 → get_or w 5 0 ≡ 50 → get_or w 6 0 ≡ 115 → Some Blake2s ≡ hash_named w
blake2s_named w h ea eb ec ed ee ef eg = ap hash_named (sym (seven w _ _ _ _ _ _ _ h ea eb ec ed ee ef eg))
