-- A word is hex where it has a decoded length.
use Rattle.std.proofs.Common.{◌≡◌, ℕ, List, ◌∷◌, length, is_some, Some, None, Option, sym, refl, ap, ◌∙◌}
use Rattle.std.proofs.lemmas.Bool.{cond-true, cond-false}
use Rattle.std.specs.Option.{option_map}
use Rattle.hex_text.specs.Hex.{bytes_of}
use Rattle.byte_commands.specs.Read.{first_hex}

some_mapped : {T U : Type 0} (f : T → U) (o : Option T) → is_some (option_map f o) ≡ is_some o
some_mapped f None = refl
some_mapped f (Some x) = refl

pub is_hex : (words : List (List ℕ)) (word : List ℕ) (rest : List (List ℕ)) (n : ℕ) → words ≡ word ∷ rest → Some n ≡ option_map length (bytes_of word) → Some (word, rest) ≡ first_hex words
is_hex words word rest n e long =
    sym (ap first_hex e ∙ cond-true _ _ _ (sym (some_mapped length (bytes_of word)) ∙ ap is_some (sym long)))

pub is_no_hex : (words : List (List ℕ)) (word : List ℕ) (rest : List (List ℕ)) → words ≡ word ∷ rest → None ≡ option_map length (bytes_of word) → None ≡ first_hex words
is_no_hex words word rest e none =
    sym (ap first_hex e ∙ cond-false _ _ _ (sym (some_mapped length (bytes_of word)) ∙ ap is_some (sym none)))
