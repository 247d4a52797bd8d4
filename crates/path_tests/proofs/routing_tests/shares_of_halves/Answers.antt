use Rattle.std.proofs.Common.{sym, subst}
use Rattle.te_model.specs.PathRouting.{IsPathRouting}
use Rattle.path_tests.specs.RoutingSamples.{halves}
use Rattle.path_tests.proofs.RoutingHalves.{halves_routing}
use Rattle.path_tests.proofs.routing_tests.shares_of_halves.Goals as goal

pub new-requires-clause-routing : goal.new-requires-clause-routing
new-requires-clause-routing c =
    subst (IsPathRouting c.args.net.now) (sym c.requires.halves) (subst (λ n. IsPathRouting n halves) (sym c.requires.net) halves_routing)
