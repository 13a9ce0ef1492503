-- Each fault's number is one of its layer's.
use Rattle.std.proofs.Common.{refl, lit<}
use Rattle.reader.specs.declared.fault.ReaderFault.TheVariants as reader
use Rattle.fault.specs.declared.layers.HashFault.TheVariants as hash
use Rattle.fault.specs.declared.layers.SearchFault.TheVariants as search
use Rattle.fault.specs.declared.layers.AnswerFault.TheVariants as answer
use Rattle.fault.specs.declared.report.Cause.TheVariants as cause
use Rattle.fault.specs.Layers.{EachLayerHasItsNumbers}

pub each_layer_has_its_numbers_lem : EachLayerHasItsNumbers
each_layer_has_its_numbers_lem (cause.Reader reader.ProofTooLong) = (0, lit< tt, λ d. refl)
each_layer_has_its_numbers_lem (cause.Reader (reader.KindCutShort begins)) = (1, lit< tt, λ d. refl)
each_layer_has_its_numbers_lem (cause.Reader (reader.RestCutShort begins)) = (1, lit< tt, λ d. refl)
each_layer_has_its_numbers_lem (cause.Reader (reader.BytesLeftOver first)) = (2, lit< tt, λ d. refl)
each_layer_has_its_numbers_lem (cause.Hash hash.DigestMismatch) = (0, lit< tt, λ d. refl)
each_layer_has_its_numbers_lem (cause.Search search.QuestionOutOfBounds) = (0, lit< tt, λ d. refl)
each_layer_has_its_numbers_lem (cause.Search search.NoRootAdopted) = (1, lit< tt, λ d. refl)
each_layer_has_its_numbers_lem (cause.Search (search.KindNotKnown kind)) = (2, lit< tt, λ d. refl)
each_layer_has_its_numbers_lem (cause.Search (search.NumbersUnfit kind)) = (3, lit< tt, λ d. refl)
each_layer_has_its_numbers_lem (cause.Search search.StackFull) = (4, lit< tt, λ d. refl)
each_layer_has_its_numbers_lem (cause.Answer (answer.BufferFull places)) = (0, lit< tt, λ d. refl)
