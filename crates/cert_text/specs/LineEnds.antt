-- What stands at the end of a line.
use Rattle.std.specs.Prelude.{ℕ, List, Result, Ok}
use Rattle.cert_text.specs.Place.{Place, ◌>>=◌}
use Rattle.cert_text.specs.Reading.{read_line_end, read_next_number, read_many}

-- the line feed after a value
unfoldable pub read_line_end_after : {X : Type 0} → X → Place → Result (X × Place) ℕ
read_line_end_after x p = do
  e ← read_line_end p
  Ok (x, e)

-- so many numbers, and the line feed
unfoldable pub read_last_numbers : ℕ → Place → Result (List ℕ × Place) ℕ
read_last_numbers n p = do
  xs ← read_many n read_next_number p
  read_line_end_after xs.0 xs.1
