use Rattle.std.proofs.Common.{◌≡◌, ℕ, ◌<◌, List, [], length, map, get_or}
use Rattle.te_model.specs.declared.route.PairRoutes.{PairRoutes}
use Rattle.te_model.specs.Path.{routes_at}
use Rattle.routing.specs.Merge.{HasLinks}
use Rattle.scheme.proofs.Plans.{RoutesSoFar}
use Rattle.rate_sweeps.specs.Sweeps.{paths_of_pair}
use Rattle.rate_sweeps.proofs.mix.routing_by.Given as goal

-- the first pairs have splits of no more paths than there are sweeps, each path of which is one of a sweep
abbrev pub invariant-loop-p : goal.invariant-loop-p
invariant-loop-p l =
    RoutesSoFar (λ net pair paths. Unit {0}) (length l.sweeps) l.net (map (λ (r : PairRoutes). r.pair) l.like.routes) l.p l.routes.items
    × ((p : ℕ) (links : List ℕ) → p < l.p → HasLinks (routes_at l.routes.items p).paths links →
    (j : ℕ) × (j < length l.sweeps) × (get_or (paths_of_pair l.sweeps p) j [] ≡ links))
