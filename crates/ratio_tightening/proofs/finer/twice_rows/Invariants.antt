use Rattle.std.proofs.Common.{◌≡◌, map, take}
use Rattle.ratio_tightening.specs.Finer.{twice_row}
use Rattle.ratio_tightening.proofs.finer.twice_rows.Given as goal

abbrev pub invariant-loop-row : goal.invariant-loop-row
invariant-loop-row l = l.twice.items ≡ map twice_row (take l.row-index l.rows)
