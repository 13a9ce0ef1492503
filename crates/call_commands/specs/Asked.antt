-- A command of the calls, with the hex words themselves in place of parts of the line.
use Rattle.std.specs.Prelude.{ℕ, List, ℤ}
use Rattle.call_commands.specs.declared.command.Question.{Question}
use Rattle.call_commands.specs.declared.command.CallCommand.{CallCommand}
use Rattle.call_commands.specs.declared.command.CallCommand.TheVariants.{Publish, AdoptLatest, AdoptNth, AdoptRoot, Prove, Check, CrossCheck, Ask}

pub data Asked : Type 0 where
  publish : ℕ → Asked
  adopt_latest : Asked
  adopt_nth : ℤ → Asked
  adopt_root : List ℕ → Asked
  prove : Question → ℕ → Asked
  check : Question → List ℕ → ℕ → Asked
  cross_check : Question → List ℕ → Asked
  ask : Question → Asked

-- What a command of the code says.
abbrev pub asked : CallCommand → Asked
asked (Publish room) = publish room
asked AdoptLatest = adopt_latest
asked (AdoptNth number) = adopt_nth number
asked (AdoptRoot root) = adopt_root root.now
asked (Prove question room) = prove question room
asked (Check question proof room) = check question proof.now room
asked (CrossCheck question proof) = cross_check question proof.now
asked (Ask question) = ask question
