use Rattle.std.proofs.Common.{◌≡◌, map, take}
use Rattle.sample_networks.proofs.literals.names.Given as goal

abbrev pub invariant-loop-name : goal.invariant-loop-name
invariant-loop-name l = l.names.items ≡ map (λ s. s.now) (take l.name-index l.list)
