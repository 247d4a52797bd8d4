use Rattle.std.proofs.Common.{◌≡◌, ◌≤◌, ◌+◌, length}
use Rattle.traffic_matrix.specs.Rows.{entries_below}
use Rattle.traffic_matrix.proofs.Reading.{Standing}
use Rattle.traffic_matrix.proofs.reader.read_rows.Given as goal

-- the demands so far lead to the answer with the rows that are left
abbrev pub invariant-loop-demands : goal.invariant-loop-demands
invariant-loop-demands l = record {
  table : l.demands.table.nodes ≡ length l.nodes;
  stands : Standing l.nodes (entries_below l.nodes l.fn.rows.rest) l.demands l.row l.rows.rest;
  row : l.row + length l.rows.rest ≤ length l.fn.rows.rest + 1;
}

abbrev pub decreases-loop-demands : goal.decreases-loop-demands
decreases-loop-demands l = length l.rows.rest
