use Rattle.std.proofs.Common.{◌≡◌, map, take}
use Rattle.traffic_matrix.proofs.NodeLemmas.{bytes_of}
use Rattle.traffic_matrix.proofs.nodes.Nodes.new.Given as goal

abbrev pub invariant-loop-name : goal.invariant-loop-name
invariant-loop-name l = map bytes_of l.names.keys ≡ take l.name-index l.net.names
