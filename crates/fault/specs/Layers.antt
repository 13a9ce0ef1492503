-- The refusal and the layer of each case of a fault.
use Rattle.std.specs.Prelude.{ℕ, List, [], ◌∷◌, codes}
use Rattle.std.specs.List.{ContainsAt}
use Rattle.refusal.specs.Table.{number_of}
use Rattle.refusal.specs.declared.Refusal.{Refusal}
use Rattle.refusal.specs.declared.Refusal.TheVariants as refusal
use Rattle.reader.specs.declared.fault.ReaderFault.{ReaderFault}
use Rattle.reader.specs.declared.fault.ReaderFault.TheVariants as reader
use Rattle.fault.specs.declared.layers.HashFault.{HashFault}
use Rattle.fault.specs.declared.layers.HashFault.TheVariants as hash
use Rattle.fault.specs.declared.layers.SearchFault.{SearchFault}
use Rattle.fault.specs.declared.layers.SearchFault.TheVariants as search
use Rattle.fault.specs.declared.layers.AnswerFault.{AnswerFault}
use Rattle.fault.specs.declared.layers.AnswerFault.TheVariants as answer
use Rattle.fault.specs.declared.report.Cause.{Cause}
use Rattle.fault.specs.declared.report.Cause.TheVariants as cause
use Rattle.fault.specs.declared.layers.Layer.{Layer}
use Rattle.fault.specs.declared.layers.Layer.TheVariants as layer

-- 12, 13, 19
abbrev pub refusal_of_reader : ReaderFault → Refusal
refusal_of_reader reader.ProofTooLong = refusal.ProofTooLong
refusal_of_reader (reader.KindCutShort begins) = refusal.StringCutShort
refusal_of_reader (reader.RestCutShort begins) = refusal.StringCutShort
refusal_of_reader (reader.BytesLeftOver first) = refusal.BytesLeftOver

-- 15
abbrev pub refusal_of_hash : HashFault → Refusal
refusal_of_hash hash.DigestMismatch = refusal.DigestMismatch

-- 9, 10, 14, 16, 18
abbrev pub refusal_of_search : SearchFault → Refusal
refusal_of_search search.QuestionOutOfBounds = refusal.QuestionOutOfBounds
refusal_of_search search.NoRootAdopted = refusal.NoRootAdopted
refusal_of_search (search.KindNotKnown kind) = refusal.KindNotKnown
refusal_of_search (search.NumbersUnfit kind) = refusal.NumbersUnfit
refusal_of_search search.StackFull = refusal.StackFull

-- 17
abbrev pub refusal_of_answer : AnswerFault → Refusal
refusal_of_answer (answer.BufferFull places) = refusal.AnswerBufferFull

abbrev pub refusal_of : Cause → Refusal
refusal_of (cause.Reader e) = refusal_of_reader e
refusal_of (cause.Hash e) = refusal_of_hash e
refusal_of (cause.Search e) = refusal_of_search e
refusal_of (cause.Answer e) = refusal_of_answer e

-- The number of a fault is that of its refusal.
abbrev pub fault_number : Cause → ℕ
fault_number c = number_of (refusal_of c)

abbrev pub layer_of : Cause → Layer
layer_of (cause.Reader e) = layer.Reader
layer_of (cause.Hash e) = layer.Hash
layer_of (cause.Search e) = layer.Search
layer_of (cause.Answer e) = layer.Answer

-- The name of a layer, as it is printed.
abbrev pub name_of_layer : Layer → List ℕ
name_of_layer layer.Reader = codes "reader"
name_of_layer layer.Hash = codes "hash"
name_of_layer layer.Search = codes "search"
name_of_layer layer.Answer = codes "answer"

-- The numbers of each layer. A hash's own refusal, 20, is none of them.
abbrev pub numbers_of : Layer → List ℕ
numbers_of layer.Reader = 12 ∷ 13 ∷ 19 ∷ []
numbers_of layer.Hash = 15 ∷ []
numbers_of layer.Search = 9 ∷ 10 ∷ 14 ∷ 16 ∷ 18 ∷ []
numbers_of layer.Answer = 17 ∷ []

abbrev pub EachLayerHasItsNumbers : Type 0
EachLayerHasItsNumbers = (c : Cause) → ContainsAt (numbers_of (layer_of c)) (fault_number c)
