use Rattle.std.proofs.Common.{◌≡◌}
use Rattle.random_network.specs.Drawn.{node_names}
use Rattle.random_network.proofs.names.node_names.Given as goal

abbrev pub invariant-loop-node : goal.invariant-loop-node
invariant-loop-node l = l.names.items ≡ node_names l.node-counter
