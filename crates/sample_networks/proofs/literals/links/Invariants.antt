use Rattle.std.proofs.Common.{◌≡◌, map, take}
use Rattle.sample_networks.specs.Literals.{link_of}
use Rattle.sample_networks.proofs.literals.links.Given as goal

abbrev pub invariant-loop-tail : goal.invariant-loop-tail
invariant-loop-tail l = l.links.items ≡ map link_of (take l.tail-index l.list)
