use Rattle.std.proofs.Common.{◌≡◌, ◌≤◌, ◌*◌, ◌^◌, sum_by, take}
use Rattle.generation.proofs.totals.delivered_in.Given as goal

abbrev pub invariant-loop-row : goal.invariant-loop-row
invariant-loop-row l = (l.total ≡ sum_by (λ r. r.result.delivered) (take l.row-index l.rows)) × (l.total ≤ l.row-index * 2 ^ 64)
