-- A line that is a command without bytes is none that carries bytes.
use Rattle.std.specs.Prelude.{◌≡◌, ℕ, true, List, is_some, None}
use Rattle.script.specs.declared.command.ChartKind.{ChartKind}
use Rattle.script.specs.Command.{read_command}
use Rattle.byte_commands.specs.Read.{read_byte_command}

abbrev pub NoLineIsBoth : Type 0
NoLineIsBoth =
    (kind : ChartKind) (line : List ℕ) → is_some (read_command kind line) ≡ true → read_byte_command line ≡ None
