use Rattle.std.proofs.Common.{◌≡◌, ◌+◌, All, length, vec_len}
use Rattle.csv_records.specs.Rows.{fold_rows}
use Rattle.failure.specs.File.{with_outage_row, IsOutage}
use Rattle.failure.specs.Series.{no_failures}
use Rattle.failure.proofs.reader.read_outages.Given as goal

-- what the rows that are left add to the outages so far is what all of them say
abbrev pub invariant-loop-list : goal.invariant-loop-list
invariant-loop-list l = record {
  said : fold_rows (with_outage_row l.links l.steps) no_failures 1 l.fn.rows.rest ≡ fold_rows (with_outage_row l.links l.steps) (record { list = l.list.items }) l.row l.rows.rest;
  row : l.row ≡ vec_len l.list + 1;
  each : All (IsOutage l.links l.steps) l.list.items;
}

abbrev pub decreases-loop-list : goal.decreases-loop-list
decreases-loop-list l = length l.rows.rest
