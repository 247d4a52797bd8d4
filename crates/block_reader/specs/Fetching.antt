-- What a read makes of a file.
use Rattle.std.specs.Prelude.{ℕ, ◌==◌, Result, Ok, Err, nat_lt, if◌then◌else◌}
use Rattle.block_reader.specs.declared.window.State.{State}
use Rattle.block_reader.specs.declared.window.State.TheVariants.{Open, Ended, Failed, TooLong}

-- what a read with this answer makes of a file that was open, of which so many bytes are fetched by then
abbrev pub state_after : {E : Type 0} → Result ℕ E → ℕ → ℕ → State
state_after (Err fault) fetched limit = Failed
state_after (Ok count) fetched limit = if count == 0 then Ended else (if nat_lt limit fetched then TooLong else Open)
