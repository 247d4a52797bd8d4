use Rattle.std.proofs.Common.{◌≡◌, map, take}
use Rattle.sample_networks.specs.Literals.{pair_of}
use Rattle.sample_networks.proofs.literals.pairs.Given as goal

abbrev pub invariant-loop-src : goal.invariant-loop-src
invariant-loop-src l = l.list.items ≡ map pair_of (take l.src-index l.ends)
