use Rattle.std.proofs.Common.{◌≡◌, List, refl, arith, sym, subst, length, ◌<◌, ◌^◌}
use Rattle.te_model.specs.declared.network.Network.{Network}
use Rattle.te_model.specs.declared.route.PairRoutes.{PairRoutes}
use Rattle.te_model.specs.Pairs.{AreDemands}
use Rattle.te_model.specs.PathRouting.{IsPathRouting}
use Rattle.te_model.specs.ThreeNodes.{straight_routes, three_nodes}
use Rattle.sample_networks.proofs.PathRoutings.{path_routing}
use Rattle.certificate_tests.proofs.update_plan_tests.is_planned.Goals as goal

-- the straight routes are a routing of the three nodes
straight : (net : Network) (routes : List PairRoutes) → net ≡ three_nodes → routes ≡ straight_routes → IsPathRouting net routes
straight net routes nodes ways =
    subst (λ n. IsPathRouting n routes) (sym nodes)
    (subst (λ rs. IsPathRouting three_nodes rs) (sym ways) (path_routing three_nodes straight_routes refl))

pub plan-requires-clause-before : goal.plan-requires-clause-before
plan-requires-clause-before c =
    straight c.in_ok-net.net c.in_ok-routing.routing.routes c.in_ok-net.ensures c.in_ok-routing.ensures

pub plan-requires-clause-after : goal.plan-requires-clause-after
plan-requires-clause-after c =
    straight c.in_ok-net.net c.in_ok-routing.routing.routes c.in_ok-net.ensures c.in_ok-routing.ensures

pub plan-requires-clause-few : goal.plan-requires-clause-few
plan-requires-clause-few c = subst (λ (rs : List PairRoutes). length rs < 2 ^ 32) (sym c.in_ok-routing.ensures) (omega arith)

pub plan-requires-clause-demands : goal.plan-requires-clause-demands
plan-requires-clause-demands c =
    subst (λ (rs : List PairRoutes). AreDemands (length rs) c.in_ok-matrix.matrix.demand) (sym c.in_ok-routing.ensures) c.in_ok-matrix.ensures
