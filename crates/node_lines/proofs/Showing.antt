-- Parts of a line that shows a node.
use Rattle.std.proofs.Common.{◌≡◌, ℕ, List, [], ◌∷◌, ◌++◌, map, refl, ap}
use Rattle.std.proofs.lemmas.List.Folds.{flat_map-map}
use Rattle.node_lines.specs.Shown.{after_text}

-- What is shown of items is what is shown of what they say.
pub after_text_of : {A B : Type 0} (text : List ℕ) (shown : B → List ℕ) (said : A → B) (xs : List A) → after_text text shown (map said xs) ≡ after_text text (λ x. shown (said x)) xs
after_text_of text shown said [] = refl
after_text_of text shown said (x ∷ xs) = ap (λ zs. text ++ zs) (flat_map-map shown said (x ∷ xs))
