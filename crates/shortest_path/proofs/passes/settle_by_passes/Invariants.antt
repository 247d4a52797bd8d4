use Rattle.std.proofs.Common.{◌^◌, ◌*◌}
use Rattle.shortest_path.specs.Passes.{IsPartSearch}
use Rattle.shortest_path.specs.Rows.{graph_of}
use Rattle.shortest_path.proofs.passes.settle_by_passes.Given as goal

abbrev pub invariant-loop-before : goal.invariant-loop-before
invariant-loop-before l =
    IsPartSearch (graph_of l.net l.lengths l.open l.arcs.direction l.arcs.rows.items) l.start (2 ^ 28) (128 * l.before) l.distances l.scans
