use Rattle.std.proofs.Common.{◌≡◌, map, take}
use Rattle.witness_search.specs.Candidates.{direct_capacity}
use Rattle.witness_search.proofs.candidates.direct_capacities.Given as goal

abbrev pub invariant-loop-route : goal.invariant-loop-route
invariant-loop-route l = l.demand.items ≡ map (λ r. direct_capacity l.head.network r.pair) (take l.route-index l.routes)
