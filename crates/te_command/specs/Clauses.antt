-- The clauses of the top call as one record of plain values.
use Rattle.std.specs.Prelude.{ℕ, List}
use Rattle.te_ports.specs.Shown.{Shown}
use Rattle.command_frame.specs.Run.{Change}
use Rattle.command_frame.specs.Clauses.{RunOf as RunBy}
use Rattle.te_command.specs.Commands.{commands}

-- the clauses of `run` for these words, by their names
abbrev pub RunOf : List (List ℕ) → Shown → Shown → ℕ → Change → Change → Type 0
RunOf words old new result out err = RunBy commands words old new result out err
