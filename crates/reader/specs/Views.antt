-- What a view shows of a string that was read.
use Rattle.std.specs.Prelude.{ℕ, ◌-◌, ◌*◌, ◌/◌, cond, List, [], ◌∷◌, length, ℤ, pos, Some, None, Option, nat_lt}
use Rattle.std.specs.List.{slice_get}
use Rattle.reader.specs.declared.view.NodeView.{NodeView}
use Rattle.reader.specs.Parts.{numbers_in, digests_in}

-- A string in the proof: its kind, its bytes, the bytes of its numbers and of its successors' digests, the place where
-- it begins and the place after it.
pub record StringSeen : Type 0 where
  pub kind : ℕ
  pub string : List ℕ
  pub numbers : List ℕ
  pub successors : List ℕ
  pub begins : ℕ
  pub ends : ℕ

abbrev pub seen_in : NodeView → StringSeen
seen_in view = record { kind = view.kind; string = view.string.now; numbers = view.numbers.now; successors = view.successors.now; begins = view.begins; ends = view.ends }

-- The number at an index.
abbrev pub number_at : StringSeen → ℕ → Option ℤ
number_at seen i = slice_get (numbers_in seen.numbers) i

-- The first four numbers, 0 for each that is not there.
abbrev pub or_zero : Option ℤ → ℤ
or_zero (Some z) = z
or_zero None = pos 0

abbrev pub four_numbers : StringSeen → List ℤ
four_numbers seen =
    or_zero (number_at seen 0) ∷ or_zero (number_at seen 1) ∷ or_zero (number_at seen 2) ∷ or_zero (number_at seen 3) ∷ []

-- The digest at an index.
abbrev pub digest_at : StringSeen → ℕ → Option (List ℕ)
digest_at seen i = slice_get (digests_in seen.successors) i

-- The place in the proof where the digest at an index begins: the successors' bytes end where the string ends.
abbrev pub digest_place_at : StringSeen → ℕ → Option ℕ
digest_place_at seen i =
    cond (nat_lt i (length seen.successors / 32)) (Some (seen.ends - (length seen.successors - 32 * i))) None
