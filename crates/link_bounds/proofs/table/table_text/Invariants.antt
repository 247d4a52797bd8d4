use Rattle.std.proofs.Common.{◌≡◌, ◌++◌}
use Rattle.std.specs.Prelude.{flat_map}
use Rattle.std.specs.List.{range_with_len}
use Rattle.link_bounds.specs.Table.{header}
use Rattle.link_bounds.proofs.Rows.{shared_row}
use Rattle.link_bounds.proofs.table.table_text.Given as goal

abbrev pub invariant-loop-e : goal.invariant-loop-e
invariant-loop-e l = l.text.items ≡ header ++ flat_map (shared_row l.head l.needs) (range_with_len 0 l.e)
