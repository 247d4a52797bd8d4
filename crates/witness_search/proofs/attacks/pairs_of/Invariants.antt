use Rattle.std.proofs.Common.{◌≡◌, map, take}
use Rattle.witness_search.proofs.attacks.pairs_of.Given as goal

abbrev pub invariant-loop-route : goal.invariant-loop-route
invariant-loop-route l = l.list.items ≡ map (λ r. r.pair) (take l.route-index l.routes)
