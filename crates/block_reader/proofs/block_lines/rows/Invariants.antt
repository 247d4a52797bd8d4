use Rattle.std.proofs.Common.{◌-◌, length, take}
use Rattle.std.specs.List.{AllByRecursion}
use Rattle.cert_text.specs.Fits.{FitsRow}
use Rattle.cert_text.specs.Reading.{read_many, narrow_number}
use Rattle.cert_text.specs.Grammar.{read_row}
use Rattle.cert_text.specs.Takes.{Takes}
use Rattle.cert_text.proofs.Taking.{StillReads}
use Rattle.block_reader.specs.Room.{HasWidth, IsShelf}
use Rattle.block_reader.proofs.block_lines.rows.Given as goal

abbrev pub invariant-loop-k : goal.invariant-loop-k
invariant-loop-k g l =
    IsShelf (length l.fn.rows) (length l.fn.spare.potential) l.rows × HasWidth (length l.fn.spare.potential) l.spare ×
    AllByRecursion (FitsRow (length l.fn.spare.potential)) (take l.k l.rows) ×
    (let item = read_row narrow_number (length l.fn.spare.potential) in
    Takes l.fn.r l.r (StillReads item (take l.k l.rows) (length l.fn.rows - l.k)) (read_many (length l.fn.rows) item))
