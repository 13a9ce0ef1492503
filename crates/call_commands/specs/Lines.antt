-- The lines that answer the calls, without the line's end.
use Rattle.std.specs.Prelude.{ℕ, List, ◌∷◌, ◌++◌, pos, codes, decimal}
use Rattle.std.specs.List.{flat_map}
use Rattle.refusal.specs.Table.{words_of}
use Rattle.fault.specs.declared.report.Fault.{Fault}
use Rattle.fault.specs.Layers.{fault_number, layer_of, name_of_layer, refusal_of}
use Rattle.calls.specs.declared.outcomes.Checked.{Checked}
use Rattle.calls.specs.declared.outcomes.Comparison.{Comparison}
use Rattle.calls.specs.declared.outcomes.Comparison.TheVariants.{Same, Difference, Clash}
use Rattle.hex_text.specs.Hex.{hex_of}
use Rattle.script.specs.declared.command.ChartKind.{ChartKind}
use Rattle.script.specs.declared.command.ChartKind.TheVariants.{Zone, Site}
use Rattle.script.specs.Lines.{field, line_of_sites}

-- A text, and a count after a space.
abbrev pub counted : List ℕ → ℕ → List ℕ
counted text count = text ++ (32 ∷ decimal count)

-- published 8 records, root HEX
abbrev pub line_of_published : ℕ → List ℕ → List ℕ
line_of_published count root = counted (codes "published") count ++ (codes " records, root " ++ hex_of root)

-- adopted HEX
abbrev pub line_of_adopted : List ℕ → List ℕ
line_of_adopted root = codes "adopted " ++ hex_of root

-- proof HEX
abbrev pub line_of_proof : List ℕ → List ℕ
line_of_proof bytes = codes "proof " ++ hex_of bytes

-- zone 7; sites 1 2, or sites none
abbrev pub line_of_numbers : ChartKind → List ℕ → List ℕ
line_of_numbers Zone numbers = codes "zone" ++ flat_map (λ n. field (pos n)) numbers
line_of_numbers Site numbers = line_of_sites numbers

--  by 5 strings, 320 bytes
abbrev pub bytes_counted : ℕ → List ℕ
bytes_counted bytes = counted (codes " strings,") bytes ++ codes " bytes"

abbrev pub counts_of : Checked → List ℕ
counts_of checked = counted (codes " by") checked.strings ++ bytes_counted checked.bytes

abbrev pub line_of_checked : ChartKind → List ℕ → Checked → List ℕ
line_of_checked kind numbers checked = line_of_numbers kind numbers ++ counts_of checked

-- refused 15 (hash) at step 2, byte 72: and the reason
abbrev pub place_and_reason : Fault → List ℕ
place_and_reason fault = counted (codes ", byte") fault.place ++ (codes ": " ++ words_of (refusal_of fault.cause))

abbrev pub step_and_reason : Fault → List ℕ
step_and_reason fault = counted (codes ") at step") fault.step ++ place_and_reason fault

abbrev pub layer_and_reason : Fault → List ℕ
layer_and_reason fault = (codes " (" ++ name_of_layer (layer_of fault.cause)) ++ step_and_reason fault

abbrev pub line_of_fault : Fault → List ℕ
line_of_fault fault = counted (codes "refused") (fault_number fault.cause) ++ layer_and_reason fault

-- difference at record 3, byte 72
abbrev pub at_record : List ℕ → ℕ → ℕ → List ℕ
at_record text place byte = counted text place ++ counted (codes ", byte") byte

abbrev pub line_of_comparison : Comparison → List ℕ
line_of_comparison Same = codes "same"
line_of_comparison (Difference place byte) = at_record (codes "difference at record") place byte
line_of_comparison (Clash place byte) = at_record (codes "clash at record") place byte

abbrev pub after_colon : Comparison → List ℕ
after_colon comparison = codes ": " ++ line_of_comparison comparison

-- What check answers, then what cross-check answers.
abbrev pub line_of_asked : ChartKind → List ℕ → Checked → Comparison → List ℕ
line_of_asked kind numbers checked comparison = line_of_checked kind numbers checked ++ after_colon comparison
