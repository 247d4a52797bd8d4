use Rattle.std.proofs.Common.{◌^◌, ◌+◌, ℕ}
use Rattle.shortest_path.specs.Passes.{IsPartSearch}
use Rattle.shortest_path.specs.Rows.{graph_of}
use Rattle.shortest_path.proofs.passes.pass.Given as goal

abbrev pub invariant-loop-node : goal.invariant-loop-node
invariant-loop-node l =
    (start n : ℕ) → IsPartSearch (graph_of l.net l.lengths l.open l.arcs.direction l.arcs.rows.items) start (2 ^ 28) n l.initial.distances l.initial.scans →
    IsPartSearch (graph_of l.net l.lengths l.open l.arcs.direction l.arcs.rows.items) start (2 ^ 28) (n + l.node-index) l.distances l.scans
