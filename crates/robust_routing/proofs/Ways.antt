-- Limits of the numbers of paths.
use Rattle.std.proofs.Common.{ℕ, List, arith}
use Rattle.te_model.specs.declared.route.PairRoutes.{PairRoutes}
use Rattle.routing.specs.Routes.{HasFewPaths}
use Rattle.routing.proofs.FewPaths.{few_more}
use Rattle.robust_routing.specs.Robust.{most_ways, ways_of}

-- no limit is above the most
pub few_of_most : (asked : ℕ) (routes : List PairRoutes) → HasFewPaths (ways_of asked) routes → HasFewPaths most_ways routes
few_of_most asked routes has = few_more (ways_of asked) most_ways routes (omega arith) has
