-- The words that begin a command with bytes begin no other.
use Rattle.std.proofs.Common.{◌≡◌, ℕ, Bool, true, false, cond, ltb, List, [], ◌∷◌, length, is_some, None, codes, sym, refl, ap, ◌∙◌}
use Rattle.std.proofs.lemmas.Slice.Eq.{bytes_eq-Decides}
use Rattle.std.proofs.lemmas.Bool.{cond-false, false≢true}
use Rattle.std.specs.Str.{bytes_eq}
use Rattle.script.specs.declared.command.ChartKind.{ChartKind}
use Rattle.script.specs.Command.{read_command, read_words}
use Rattle.script.specs.Words.{words_of}
use Rattle.byte_commands.specs.Read.{read_byte_command, read_byte_words}

other_verb : (kind : ChartKind) (verb name : List ℕ) (rest : List (List ℕ)) → read_words kind (name ∷ rest) ≡ None → is_some (read_words kind (verb ∷ rest)) ≡ true → bytes_eq verb name ≡ false
other_verb kind verb name rest none some = go (bytes_eq verb name) refl
  where
    go : (t : Bool) → bytes_eq verb name ≡ t → t ≡ false
    go true e =
        let same = (bytes_eq-Decides verb name).0 e in
        absurd (false≢true (ap is_some (sym none) ∙ (ap (λ v. is_some (read_words kind (v ∷ rest))) (sym same) ∙ some)))
    go false e = refl

words_apart : (kind : ChartKind) (words : List (List ℕ)) → is_some (read_words kind words) ≡ true → read_byte_words words ≡ None
words_apart kind [] some = refl
words_apart kind (verb ∷ rest) some = cond-false _ _ _ (other_verb kind verb (codes "digest") rest refl some)

pub lines_apart : (kind : ChartKind) (line : List ℕ) → is_some (read_command kind line) ≡ true → read_byte_command line ≡ None
lines_apart kind line some = go (ltb 200000 (length line)) some
  where
    go : (t : Bool) → is_some (cond t None (read_words kind (words_of line))) ≡ true → cond t None (read_byte_words (words_of line)) ≡ None
    go true h = refl
    go false h = words_apart kind (words_of line) h
