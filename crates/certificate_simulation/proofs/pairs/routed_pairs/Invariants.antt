use Rattle.std.proofs.Common.{◌≡◌, map, take}
use Rattle.certificate_simulation.proofs.pairs.routed_pairs.Given as goal

abbrev pub invariant-loop-route : goal.invariant-loop-route
invariant-loop-route l = l.pairs.items ≡ map (λ r. r.pair) (take l.route-index l.routes)
