-- What is read of a block after its first line.
use Rattle.std.specs.Prelude.{ℕ, Result, Ok}
use Rattle.te_model.specs.declared.certificate.Block.{Block}
use Rattle.cert_text.specs.declared.limits.BlockLine.{BlockLine}
use Rattle.cert_text.specs.declared.limits.Counts.{Counts}
use Rattle.cert_text.specs.Place.{Place, ◌>>=◌}
use Rattle.cert_text.specs.Reading.{read_many}
use Rattle.cert_text.specs.Grammar.{read_number_line, read_row, read_sides}

-- the block that such a line begins
unfoldable pub read_block_rest : (ℕ → ℕ) → Counts → BlockLine → Place → Result (Block × Place) ℕ
read_block_rest keep counts line p = do
  weights ← read_number_line counts.links p
  rows ← read_many line.rows (read_row keep counts.nodes) weights.1
  sides ← read_sides counts.bounded counts.pairs rows.1
  Ok (record { link = line.link; a = line.a; b = line.b; weights = weights.0; rows = rows.0; plus = sides.0.0; minus = sides.0.1 }, sides.1)
