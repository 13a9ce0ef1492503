-- A string that was read is hashed to the digest of its node.
use Rattle.std.proofs.Common.{ℕ, suc, ◌<◌, List, [], ◌∷◌, get_or, Ok, sym, ap, ◌∙◌, arith}
use Rattle.std.specs.List.{AllByRecursion}
use Rattle.node.proofs.ShortStrings.{short_is_hashed}
use Rattle.reader.specs.RoundTrips.{IsByte, ReadStringsAreHashed}
use Rattle.reader.proofs.Outcomes.{read_length}
use Rattle.reader.proofs.WritingBack.{read_is_written_back_lem}

pub read_strings_are_hashed_lem : ReadStringsAreHashed
read_strings_are_hashed_lem hash p shape seen all few three read =
    short_is_hashed hash seen.string (omega (arith, read_length p shape seen read))
    ∙ ap (λ (t : List ℕ). Ok (hash t)) (sym (read_is_written_back_lem p shape seen all read).0)

-- what the type of a slice of bytes says, as the statements above take it
pub bytes_of : (bytes : List ℕ) → ((i : ℕ) → get_or bytes i 0 < 256) → AllByRecursion IsByte bytes
bytes_of [] each = tt
bytes_of (b ∷ bytes) each = (each 0, bytes_of bytes (λ i. each (suc i)))
