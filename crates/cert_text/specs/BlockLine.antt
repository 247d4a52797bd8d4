-- The first line of a block.
use Rattle.std.specs.Prelude.{ℕ, Result, Ok}
use Rattle.cert_text.specs.declared.limits.BlockLine.{BlockLine}
use Rattle.cert_text.specs.Place.{Place, ◌>>=◌}
use Rattle.cert_text.specs.Reading.{read_line_end, read_narrow, read_next_number, read_next_count}

-- its link, its `a` and `b`, and how many rows it has, which are at most so many
unfoldable pub read_block_line : (ℕ → ℕ) → ℕ → Place → Result (BlockLine × Place) ℕ
read_block_line keep most p = do
  link ← read_narrow keep p
  a ← read_next_number link.1
  b ← read_next_number a.1
  n ← read_next_count 0 most b.1
  e ← read_line_end n.1
  Ok (record { link = link.0; a = a.0; b = b.0; rows = n.0 }, e)
