-- The digest looked for.
use Rattle.std.specs.Prelude.{ℕ, ◌+◌, cond, List, length, Some, None, Option, nat_le}
use Rattle.std.specs.Borrow.{Bor}
use Rattle.reader.specs.declared.digest_lookup.DigestPlace.{DigestPlace}
use Rattle.reader.specs.declared.digest_lookup.DigestPlace.TheVariants.{InRoot, InProof}
use Rattle.reader.specs.Parts.{part}

-- 32 bytes from a place on, where there are as many.
abbrev pub digest_from : List ℕ → ℕ → Option (List ℕ)
digest_from bytes at = cond (nat_le (at + 32) (length bytes)) (Some (part bytes at 32)) None

-- The digest looked for is a part of the adopted root or of the proof.
abbrev pub looked_for : List ℕ → List ℕ → DigestPlace → Option (List ℕ)
looked_for root proof InRoot = digest_from root 0
looked_for root proof (InProof at) = digest_from proof at

-- The bytes that a reference shows, where there is one.
abbrev pub shown : Option (Bor (List ℕ)) → Option (List ℕ)
shown (Some r) = Some r.now
shown None = None
