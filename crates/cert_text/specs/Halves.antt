-- The two halves of a certificate: what the first line and the head give, and what is read after them.
use Rattle.std.specs.Prelude.{ℕ, List, Result, Ok, codes}
use Rattle.te_model.specs.declared.certificate.Block.{Block}
use Rattle.te_model.specs.declared.certificate.Head.{Head}
use Rattle.te_model.specs.Formats.{limits_of}
use Rattle.cert_text.specs.Place.{Place, ◌>>=◌}
use Rattle.cert_text.specs.Reading.{read_many}
use Rattle.cert_text.specs.Grammar.{read_counted, read_head, read_block, read_closing, read_format, counts_of}

-- the first line, and the head within the limits of its format
unfoldable pub read_format_and_head : (ℕ → ℕ) → Place → Result (Head × Place) ℕ
read_format_and_head keep p = do
  format ← read_format p
  read_head (limits_of format.0) keep format.1

-- the count of the blocks, the blocks of such a head, and the last line
unfoldable pub read_blocks : (ℕ → ℕ) → Head → Place → Result (List Block × Place) ℕ
read_blocks keep head p = do
  n ← read_counted (codes "blocks ") 0 (limits_of head.format).links p
  blocks ← read_many n.0 (read_block (limits_of head.format) keep (counts_of head)) n.1
  e ← read_closing blocks.1
  Ok (blocks.0, e)
