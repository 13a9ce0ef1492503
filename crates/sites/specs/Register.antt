-- What a register holds, and what a list of sites lists.
use Rattle.std.specs.Prelude.{ℕ, List, map, Ok, Err, Result}
use Rattle.refusal.specs.declared.Refusal.{Refusal}
use Rattle.records.specs.declared.raw.SiteRecord.{SiteRecord}
use Rattle.slices.specs.declared.run.Run.{Run}
use Rattle.slices.specs.Runs.{elements}
use Rattle.sites.specs.declared.register.SiteRegister.{SiteRegister}
use Rattle.sites.specs.Site.{raw_of}

-- The meaning of a register is the list of its records.
abbrev pub held : SiteRegister → List SiteRecord
held register = map raw_of (elements register.sites)

abbrev pub numbers_in : Result (Run ℕ 128) Refusal → Result (List ℕ) Refusal
numbers_in (Ok l) = Ok (elements l)
numbers_in (Err refusal) = Err refusal
