use Rattle.std.proofs.Common.{◌≡◌}
use Rattle.std.specs.Prelude.{filter}
use Rattle.std.specs.List.{range_with_len}
use Rattle.dual_bounds.specs.Rows.{sends_from}
use Rattle.dual_bounds.proofs.rows.sources_of.Given as goal

abbrev pub invariant-loop-node : goal.invariant-loop-node
invariant-loop-node l = l.sources.items ≡ filter (sends_from l.routes) (range_with_len 0 l.node)
