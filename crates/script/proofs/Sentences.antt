-- Lines that are made of two parts.
use Rattle.std.proofs.Common.{◌≡◌, ℕ, List, [], ◌∷◌, ◌++◌, pos, codes, sym, ap, ◌∙◌}
use Rattle.refusal.specs.Table as table
use Rattle.refusal.specs.declared.Refusal.{Refusal}
use Rattle.script.specs.declared.command.ChartKind.{ChartKind}
use Rattle.script.specs.declared.command.HashName.{HashName}
use Rattle.script.specs.Lines.{line_of_begun, line_of_refusal, name_of_hash, name_of_kind, with_numbers}

pub begun_parts : (kind : ChartKind) (hash : HashName) (k h : List ℕ) → k ≡ name_of_kind kind → h ≡ name_of_hash hash → line_of_begun kind hash ≡ (codes "begun " ++ k) ++ (codes " " ++ h)
begun_parts kind hash k h ek eh =
    ap (λ n. (codes "begun " ++ n) ++ (codes " " ++ name_of_hash hash)) (sym ek)
    ∙ ap (λ n. (codes "begun " ++ k) ++ (codes " " ++ n)) (sym eh)

pub refused_parts : (refusal : Refusal) (n : ℕ) (w : List ℕ) → n ≡ table.number_of refusal → w ≡ table.words_of refusal → line_of_refusal refusal ≡ with_numbers (codes "refused") (pos n ∷ []) ++ (codes ": " ++ w)
refused_parts refusal n w en ew =
    ap (λ m. with_numbers (codes "refused") (pos m ∷ []) ++ (codes ": " ++ table.words_of refusal)) (sym en)
    ∙ ap (λ v. with_numbers (codes "refused") (pos n ∷ []) ++ (codes ": " ++ v)) (sym ew)
