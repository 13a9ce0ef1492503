-- What a reader's fault knows.
use Rattle.std.specs.Prelude.{ℕ}
use Rattle.reader.specs.declared.fault.ReaderFault.{ReaderFault}
use Rattle.reader.specs.declared.fault.ReaderFault.TheVariants.{ProofTooLong, KindCutShort, RestCutShort, BytesLeftOver}

-- The byte place that it concerns; of a proof that is too long, byte 0.
abbrev pub place_of : ReaderFault → ℕ
place_of ProofTooLong = 0
place_of (KindCutShort begins) = begins
place_of (RestCutShort begins) = begins
place_of (BytesLeftOver first) = first
