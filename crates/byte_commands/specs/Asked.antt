-- A command that carries bytes, with the hex words themselves in place of parts of the line.
use Rattle.std.specs.Prelude.{ℕ, List}
use Rattle.script.specs.declared.command.HashName.{HashName}
use Rattle.byte_commands.specs.declared.command.ByteCommand.{ByteCommand}
use Rattle.byte_commands.specs.declared.command.ByteCommand.TheVariants.{Digest}

pub data Asked : Type 0 where
  digest : HashName → List ℕ → Asked

-- What a command of the code says.
abbrev pub asked : ByteCommand → Asked
asked (Digest hash message) = digest hash message.now
