-- What a register holds.
use Rattle.std.specs.Prelude.{List, map}
use Rattle.records.specs.declared.raw.EdgeRecord.{EdgeRecord}
use Rattle.geometry.specs.Held.{raw_of}
use Rattle.slices.specs.Runs.{elements}
use Rattle.zones.specs.declared.register.ZoneRegister.{ZoneRegister}

-- The meaning of a register is the list of its records.
abbrev pub held : ZoneRegister → List EdgeRecord
held register = map raw_of (elements register.edges)
