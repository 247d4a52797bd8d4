use Rattle.std.proofs.Common.{◌≡◌, ◌≤◌, ◌+◌, List, length, Ok}
use Rattle.traffic_matrix.specs.declared.entry.Entry.{Entry}
use Rattle.traffic_matrix.specs.Rows.{entries_below}
use Rattle.traffic_matrix.proofs.OutsideRows.{SoFar}
use Rattle.traffic_matrix.proofs.outside.first_unmarked_row.Given as goal

-- the rows so far lead to all entries with the rows that are left, and none of their pairs lacks a mark
abbrev pub invariant-loop-rows : goal.invariant-loop-rows
invariant-loop-rows l = record {
  so_far : (all : List Entry) → entries_below l.nodes l.fn.rows.rest ≡ Ok all → SoFar l.nodes l.marks all l.row l.rows.rest;
  row : l.row + length l.rows.rest ≤ length l.fn.rows.rest + 1;
}

abbrev pub decreases-loop-rows : goal.decreases-loop-rows
decreases-loop-rows l = length l.rows.rest
