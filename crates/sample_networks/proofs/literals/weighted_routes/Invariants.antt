use Rattle.std.proofs.Common.{◌≡◌, map, take}
use Rattle.sample_networks.specs.Literals.{routes_of, share_of}
use Rattle.sample_networks.proofs.literals.weighted_routes.Given as goal

abbrev pub invariant-loop-src : goal.invariant-loop-src
invariant-loop-src l = l.routes.items ≡ map (λ q. routes_of q.0 q.1 (map (λ p. share_of p.0.now p.1) q.2.now)) (take l.src-index l.pairs)
