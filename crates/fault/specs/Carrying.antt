-- A fault carried up whole: the lower layer's error with the step and the byte place that it concerns.
use Rattle.std.specs.Prelude.{ℕ, Ok, Err, Result}
use Rattle.reader.specs.declared.fault.ReaderFault.{ReaderFault}
use Rattle.reader.specs.Faults.{place_of}
use Rattle.fault.specs.declared.layers.HashFault.{HashFault}
use Rattle.fault.specs.declared.layers.SearchFault.{SearchFault}
use Rattle.fault.specs.declared.layers.AnswerFault.{AnswerFault}
use Rattle.fault.specs.declared.report.Cause.{Cause}
use Rattle.fault.specs.declared.report.Cause.TheVariants as cause
use Rattle.fault.specs.declared.report.Fault.{Fault}
use Rattle.fault.specs.declared.stamps.AtStep.{AtStep}
use Rattle.fault.specs.declared.stamps.AtString.{AtString}

abbrev pub fault_at : ℕ → ℕ → Cause → Fault
fault_at step place c = record { cause = c; step = step; place = place }

-- Before the first string, the step is 0.
abbrev pub from_reader : ReaderFault → Fault
from_reader e = fault_at 0 (place_of e) (cause.Reader e)

abbrev pub from_search : SearchFault → Fault
from_search e = fault_at 0 0 (cause.Search e)

-- At a step. The reader knows the place; for the other layers it is where the string begins.
abbrev pub from_reader_at_step : AtStep ReaderFault → Fault
from_reader_at_step s = fault_at s.step (place_of s.fault) (cause.Reader s.fault)

abbrev pub from_hash_at_string : AtString HashFault → Fault
from_hash_at_string s = fault_at s.step s.begins (cause.Hash s.fault)

abbrev pub from_search_at_string : AtString SearchFault → Fault
from_search_at_string s = fault_at s.step s.begins (cause.Search s.fault)

abbrev pub from_answer_at_string : AtString AnswerFault → Fault
from_answer_at_string s = fault_at s.step s.begins (cause.Answer s.fault)

-- An error with the step, or with the step and the place where the string begins.
abbrev pub stamped_step : {X E : Type 0} → ℕ → Result X E → Result X (AtStep E)
stamped_step step (Ok x) = Ok x
stamped_step step (Err e) = Err (record { step = step; fault = e })

abbrev pub stamped_string : {X E : Type 0} → ℕ → ℕ → Result X E → Result X (AtString E)
stamped_string step begins (Ok x) = Ok x
stamped_string step begins (Err e) = Err (record { step = step; begins = begins; fault = e })

-- What a question mark does: a result used further, or its error turned into the caller's.
abbrev pub carried : {X Y E F : Type 0} → (E → F) → Result X E → (X → Result Y F) → Result Y F
carried turn (Ok x) further = further x
carried turn (Err e) further = Err (turn e)
